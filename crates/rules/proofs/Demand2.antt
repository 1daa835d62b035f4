-- Demand 2, proved.
-- Assumes nothing.
use Rattle.layout.specs.Limits.{slots_len}
use Rattle.rules.specs.Demands.{Demand2}
use Rattle.rules.proofs.WriteLaws.{write-ruled}
use Rattle.rules.proofs.WriteFacts.{write-does, write-overflows}
use Rattle.rules.proofs.DeclareLaws.{declare-ruled, declare-does, declare-twice}
use Rattle.rules.proofs.AnalyseLaws.{analyse-ruled}
use Rattle.rules.proofs.AnalyseFacts.{analyse-does, analyse-accepts, analyse-adjusts}
use Rattle.rules.proofs.CollectLaws.{collect-sweeps, collect-does, same_end_lem}
use Rattle.rules.proofs.SinkFacts.{list-tests, list-facts, declare-full}
use Rattle.rules.proofs.Calls.{made-inv}
use Rattle.rules.proofs.Unmet.{unmet}

pub demand2 : Demand2
demand2 = record {
  sweeps = λ s kind work map e. collect-sweeps s kind work map e;
  collects = λ s m kind work map lw lm. collect-does s (made-inv m) kind work map lw lm;
  same_end = λ s m work map lw lm. same_end_lem s (made-inv m) work map lw lm;
  ruled = λ s m. record { analysed = analyse-ruled s (made-inv m); written = write-ruled s (made-inv m); declared = declare-ruled s (made-inv m) };
  analyses = λ s m work e. analyse-does s (made-inv m) work e;
  adjusts = analyse-adjusts;
  writes = write-does;
  overflows = write-overflows;
  declares = λ s i e. declare-does s i e;
  again = λ s i e. declare-twice s i e;
  accepts = λ s m work l. analyse-accepts s (made-inv m) work l;
  full = λ s m i u e. declare-full s (made-inv m) i u e;
  lists = λ s m. list-facts s (made-inv m);
  tests = list-tests;
  long = λ s m. let I = made-inv m in (I.recs-long, (unfold slots_len in I.slots-long), I.roots-long, I.sinks-long, I.sets-long);
  unmet = λ s m call. unmet s (made-inv m) call;
}
