use Rattle.std.proofs.Common.{◌≡◌, map, true}
use Rattle.std.specs.List.{list_all, range_with_len}
use Rattle.fb_expect.specs.Drafts.{text_of}
use Rattle.fb_expect.specs.OwnNames.{is_first_at}
use Rattle.fb_expect.proofs.own_names.second_of_name.Given as goal

abbrev pub invariant-loop-index : goal.invariant-loop-index
invariant-loop-index l = list_all (is_first_at (map text_of l.drafts)) (range_with_len 0 l.index) ≡ true
