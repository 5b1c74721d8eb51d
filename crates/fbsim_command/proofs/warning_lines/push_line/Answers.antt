use Rattle.std.proofs.Common.{◌++◌, ◌∙◌, List, ℕ, append_assoc, ap, string_bytes, refl}
use Rattle.fbsim_command.proofs.warning_lines.push_line.Goals as goal

pub returns : goal.returns
returns c =
    let place = string_bytes c.in_ok-place.place in
    let words = string_bytes c.in_ok-words.words in
    let old = c.args.text.now.items in (
      place ++ words,
      record { place = place; is_place = c.in_ok-place.ensures c.args.library.now c.requires.declared; words = words; is_line = c.in_ok-words.ensures; is = refl },
      c.in_ok-extend_from_slice-2.ensures.items ∙ (λ i. (c.in_ok-extend_from_slice.ensures.items ∙ ap (λ (t : List ℕ). old ++ t) c.as_bytes.ensures.value) i ++ c.as_bytes-2.ensures.value i)
          ∙ append_assoc old place words,
    )
