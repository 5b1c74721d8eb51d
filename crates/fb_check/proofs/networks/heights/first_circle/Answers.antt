use Rattle.fb_check.proofs.lemmas.Common.{◌≡◌, ℕ, Bool, List, Option, true, sym, ◌∙◌, subst}
use Rattle.fb_types.proofs.Common.{MatchOption}
use Rattle.fb_check.specs.networks.Heights.{AreLasting, HasNoMark, mark_at}
use Rattle.fb_check.proofs.lemmas.networks.Lasting.{back_through, back_within, round_there}
use Rattle.fb_check.proofs.lemmas.networks.SearchLoops.{at_element}
use Rattle.fb_check.proofs.networks.heights.first_circle.Goals as goal

pub returns-in_default : goal.returns-in_default
returns-in_default c =
    let marks = c.as_slice-marks.result.now in (
      marks,
      subst (λ (ms : List Bool). AreLasting c.args.blocks.now ms) (sym c.as_slice-marks.ensures.value) c.in_ok-lasting.ensures,
      subst (λ (o : Option ℕ). MatchOption o (HasNoMark marks) (λ k. mark_at marks k ≡ true)) c.in_default.is c.first_set.ensures,
    )

pub met_again-requires-clause-lasting : goal.met_again-requires-clause-lasting
met_again-requires-clause-lasting c = subst (λ (ms : List Bool). AreLasting c.args.blocks.now ms) (sym c.as_slice-marks.ensures.value) c.in_ok-lasting.ensures

pub bounds-blocks-block : goal.bounds-blocks-block
bounds-blocks-block c = back_within c.args.blocks.now c.as_slice-marks.result.now c.in_ok-block.block c.in_ok-block.ensures

pub unreachable-requires : goal.unreachable-requires
unreachable-requires c =
    let xs = c.args.blocks.now in
    let k = c.in_ok-block.block in
    let marks = c.as_slice-marks.result.now in
    let o = c.index-blocks-block.result in
    back_through xs marks k o c.in_ok-block.ensures (at_element xs k o (back_within xs marks k c.in_ok-block.ensures) c.index-blocks-block.is)
    (sym c.first_marked_component.ensures ∙ c.in_default-first_marked_component.is)

pub returns : goal.returns
returns c =
    let xs = c.args.blocks.now in
    let k = c.in_ok-block.block in
    let marks = c.as_slice-marks.result.now in
    let o = c.index-blocks-block.result in (
      marks,
      subst (λ (ms : List Bool). AreLasting xs ms) (sym c.as_slice-marks.ensures.value) c.in_ok-lasting.ensures,
      round_there xs marks k c.in-Some-first_marked_component.component o c.in_ok-block.ensures
          (at_element xs k o (back_within xs marks k c.in_ok-block.ensures) c.index-blocks-block.is)
          (sym c.first_marked_component.ensures ∙ c.in-Some-first_marked_component.is),
    )
