-- `loads::load_image` tests the image and the room, then lays the heap; the check finds its ends by their laws. Assumes nothing.
use borrow.Author.Rules.{rules}
use Rattle.loads.proofs.LoadLaws.{may-lay}
use Rattle.loads.proofs.load_image.Goals as goal

pub lay-requires : goal.lay-requires
lay-requires c = may-lay c.args.t _ _ _ _ _ _ _ _ _ (search rules) c.get2-n.ensures c.get2-r.ensures c.short_heap.ensures c.if-short_heap.false
