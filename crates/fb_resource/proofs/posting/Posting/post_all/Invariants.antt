use Rattle.std.proofs.Common.{◌≡◌, ◌++◌, length}
use Rattle.std.specs.Vec.Iter.{drain_items, DrainKeeps}
use Rattle.fb_resource.specs.Postings.{HasGrown, HasPosted, IsSame}
use Rattle.fb_resource.proofs.posting.Posting.post_all.Given as goal

abbrev pub invariant-loop-out : goal.invariant-loop-out
invariant-loop-out l = record {
  posted : HasPosted l.initial.self l.yielded l.self;
  grown : HasGrown l.initial.self (length l.yielded) l.self;
  same : IsSame l.initial.self l.self;
  rest : l.yielded ++ drain_items l.out-iterator ≡ drain_items l.initial.out-iterator;
  keeps : DrainKeeps l.initial.out-iterator l.out-iterator;
}
