-- Warnings that texts name.
use Rattle.fbsim_command.proofs.lemmas.Common.{◌≡◌, ℕ, ◌+◌, ◌<◌, Bor, List, ◌++◌, drop, get_or, length, map, take, None, sym, ◌∙◌, ap, drop_more, map-append, take-append-drop, Failure, Refused, RefusedTrace, File, Write, Memory, Line, BadOption}
use Rattle.clap.specs.Words.{Text}
use Rattle.fbsim_command.specs.Selecting.{AreUnknown, IsUnknown, selector_of}

abbrev now : Bor Text → Text
now t = t.now

-- a text that names none
pub unknown-at :
    (ts : List (Bor Text)) (i : ℕ) (d : Bor Text) (f : Failure) → i < length ts → None ≡ selector_of (get_or ts i d).now → IsUnknown (get_or ts i d).now f → AreUnknown (map now ts) f
unknown-at ts i d (Line message) lt none is =
    let t = get_or ts i d in (
      t.now,
      map now (take i ts),
      map now (drop (i + 1) ts),
      sym (ap (map now) (take-append-drop i ts)) ∙ map-append now (take i ts) (drop i ts) ∙ ap (λ (zs : List Text). map now (take i ts) ++ zs) (ap (map now) (drop_more ts i d lt)),
      sym none,
      is,
    )
unknown-at ts i d Memory lt none is = tt
unknown-at ts i d (Refused refusal) lt none is = absurd is
unknown-at ts i d (RefusedTrace text) lt none is = absurd is
unknown-at ts i d File lt none is = absurd is
unknown-at ts i d (Write n) lt none is = absurd is
unknown-at ts i d BadOption lt none is = absurd is
