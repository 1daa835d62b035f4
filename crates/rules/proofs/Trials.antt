-- The table of trials is what the definitions compute.
-- Assumes nothing.
use mathlib.Core.Path.{◌≡◌, refl}
use mathlib.Core.List.{[], ◌∷◌, map}
use Rattle.layout.specs.Limits as LLimits
use Rattle.layout.specs.Field as LField
use Rattle.records.specs.Record as LRecord
use Rattle.layout.specs.Word as LWord
use Rattle.endian.specs.Bytes as EBytes
use Rattle.bitmap.specs.Bits as LBits
use Rattle.layout.specs.ControlRecord as LControlRecord
use Rattle.layout.specs.Refusal as LRefusal
use Rattle.graph.proofs.Trials as GTrials
use Rattle.rules.specs.Buffers as RBuffers
use Rattle.rules.specs.View as RView
use Rattle.rules.specs.WellFormed as RWellFormed
use Rattle.rules.specs.Create as RCreate
use Rattle.rules.specs.Allocate as RAllocate
use Rattle.rules.specs.Read as RRead
use Rattle.rules.specs.Show as RShow
use Rattle.rules.specs.Write as RWrite
use Rattle.rules.specs.SetRoot as RSetRoot
use Rattle.rules.specs.DeclareSink as RDeclareSink
use Rattle.rules.specs.Analyse as RAnalyse
use Rattle.rules.specs.Sweep as RSweep
use Rattle.rules.specs.Collect as RCollect
use Rattle.rules.specs.Image as RImage
use Rattle.rules.specs.Save as RSave
use Rattle.rules.specs.Load as RLoad
use Rattle.rules.specs.Plain as RPlain
use Rattle.rules.specs.Steps as RSteps
use Rattle.rules.specs.Trials as Trials

pub trials : (map Trials.observed Trials.table ≡ map Trials.expected Trials.table)
    × (map Trials.listed_as Trials.listings ≡ map Trials.listed_as_given Trials.listings) × (Trials.create_refusals ≡ 1 ∷ 30 ∷ 30 ∷ 30 ∷ 30 ∷ 30 ∷ 2 ∷ 2 ∷ [])
unfolding GTrials.computed
    Trials.answered Trials.standing Trials.observed Trials.expected Trials.tuned Trials.new Trials.analysis Trials.clustered Trials.plain Trials.before_h Trials.heap_h Trials.on Trials.wide Trials.fan Trials.frames Trials.marked Trials.state_of Trials.places Trials.state_with Trials.one Trials.two Trials.record_with Trials.fresh Trials.own_rows Trials.listed_as Trials.listed_as_given Trials.listing Trials.world Trials.parted Trials.parted_with Trials.listing_rows Trials.listings Trials.pair Trials.sizes_chunk Trials.objects_chunk Trials.roots_chunk Trials.empty_chunk Trials.list_chunk Trials.pair_chunks Trials.pair_loaded Trials.short_load Trials.pair_image Trials.loading Trials.unloaded Trials.image_rows Trials.small Trials.no_buffers Trials.bad_controls Trials.full Trials.lossy Trials.refused Trials.no_work Trials.refusals Trials.rows Trials.table Trials.create_refusals Trials.retuned Trials.chain Trials.led Trials.eight_out Trials.loading_with Trials.tuning_rows Trials.refused_with
    LLimits.slots_len LLimits.work_len LLimits.map_len LLimits.within
    LField.field LField.put LField.flag LField.digit LField.put_flag
    LRecord.loose LRecord.new_record LRecord.free LRecord.clear LRecord.legal LRecord.damaged
    LWord.is_nil LWord.is_pointer LWord.is_immediate LWord.legal_word LWord.sort_of
    EBytes.bytes EBytes.number EBytes.number_at EBytes.bytes_of
    LBits.set_bits LBits.numbers_in LBits.bits_of LBits.word_of
    LControlRecord.bad_sizes LControlRecord.bad_tuning LControlRecord.bad_control LControlRecord.bad_limit LControlRecord.new_control LControlRecord.with_last LControlRecord.with_write_loss LControlRecord.with_analysis
    LRefusal.first LRefusal.by LRefusal.outcome
    RBuffers.short RBuffers.short_heap RBuffers.rec_of RBuffers.eight RBuffers.used_words RBuffers.other_words RBuffers.all_of RBuffers.all_to RBuffers.numbers RBuffers.each_from RBuffers.each_record RBuffers.each_slot RBuffers.zeros
    RView.target RView.view RView.set_word RView.exact_sets RView.exact_out RView.encoded_record RView.encoded
    RWellFormed.names RWellFormed.legal_at RWellFormed.empty_at RWellFormed.words_at RWellFormed.head_at RWellFormed.out_at RWellFormed.roots_named RWellFormed.once RWellFormed.lists RWellFormed.list_ok RWellFormed.sets_ok RWellFormed.formed RWellFormed.well_formed
    RCreate.create_tests RCreate.create
    RAllocate.candidates RAllocate.first_of RAllocate.given RAllocate.allocate_tests RAllocate.allocate RAllocate.allocate_in_place
    RRead.read_tests RRead.read
    RShow.show_tests RShow.show
    RWrite.sets_after RWrite.loss_after RWrite.write_tests RWrite.write RWrite.write_in_place
    RSetRoot.set_root_tests RSetRoot.set_root
    RDeclareSink.declare_tests RDeclareSink.declare_sink
    RAnalyse.sixteenth RAnalyse.half RAnalyse.clamped RAnalyse.next_limit RAnalyse.used_count RAnalyse.analyse_tests RAnalyse.limit_after RAnalyse.analysed RAnalyse.analyse
    RSweep.freed RSweep.kept_record RSweep.swept_record RSweep.swept_records RSweep.swept_slots RSweep.swept_sinks RSweep.sweep
    RCollect.trace RCollect.collect_tests RCollect.collect
    RImage.chunk RImage.sizes_body RImage.object_bytes RImage.objects_body RImage.image RImage.sinks_chunk RImage.body_len RImage.kind_of RImage.body_of RImage.past RImage.cut RImage.saved_n RImage.saved_r RImage.saved_last RImage.sizes_ok RImage.leads RImage.object_len RImage.left RImage.listed RImage.from RImage.saved_width RImage.saved_sink RImage.saved_as_sink RImage.saved_word RImage.saved_words RImage.shaped RImage.names_listed RImage.words_ok RImage.objects_ok RImage.saved_root RImage.roots_ok RImage.saved_list RImage.sinks_ok
    RSave.heap_chunks RSave.heap_image RSave.save_tests RSave.save
    RLoad.known RLoad.passed RLoad.misplaced RLoad.bad_body RLoad.sinks_before RLoad.bad_sinks RLoad.chunk_tests RLoad.image_tests RLoad.input_tests RLoad.loaded_record RLoad.loaded_word RLoad.loaded_sinks RLoad.load_tests RLoad.load
    RPlain.plain_created RPlain.is_free RPlain.words_in RPlain.is_sink RPlain.cell_at RPlain.plain_words RPlain.plain_sink RPlain.plain_sinks RPlain.kept_numbers RPlain.plain_given RPlain.object_tests RPlain.slot_tests RPlain.names_free RPlain.with_cell RPlain.plain_swept RPlain.plain_freed RPlain.plain_map RPlain.answer RPlain.plain_step RPlain.eight_of RPlain.plain_slots
    RSteps.created RSteps.loaded RSteps.step RSteps.answers_of RSteps.after_all
trials = (refl, refl, refl)
