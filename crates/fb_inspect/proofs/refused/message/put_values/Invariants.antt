use Rattle.fb_inspect.proofs.lemmas.Common.{◌≡◌, ◌<◌, ◌++◌, All, length, map}
use Rattle.std.specs.Prelude.{string_bytes}
use Rattle.std.specs.Iterator.Adapters.{zip_first, zip_second}
use Rattle.std.specs.Slice.Iter.{iter_rest}
use Rattle.fb_types.specs.Numbers.{pair_up}
use Rattle.fb_wave.specs.Reading.{name_at}
use Rattle.fb_inspect.specs.refused.Messages.{bindings_text}
use Rattle.fb_inspect.proofs.refused.message.put_values.Given as goal

-- with what the rest adds, all is there; the rest of the indexes are of variables
abbrev pub invariant-loop-index : goal.invariant-loop-index
invariant-loop-index l =
    (string_bytes l.text ++ bindings_text (pair_up (map (name_at l.variables) (iter_rest (zip_first l.index-iterator))) (iter_rest (zip_second l.index-iterator)))
    ≡ string_bytes l.fn.text ++ bindings_text (pair_up (map (name_at l.variables) l.indexes) l.values))
    × All (λ k. k < length l.variables) (iter_rest (zip_first l.index-iterator))
