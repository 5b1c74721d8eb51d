-- Declarations in which each kind is right.
use Rattle.fb_types.proofs.Common.{◌≡◌, true, sym, ◌∙◌, inl, inr, list_all, true≢false, and_parts, KindWrong}
use Rattle.fb_types.specs.declared.library.Library.{Library}
use Rattle.fb_types.specs.Kinds.{parameters_right}
use Rattle.fb_check_names.specs.Parts.{PartWrong}
use Rattle.fb_types.proofs.lemmas.lists.ListTests.{list_all-both, passes_at}
use Rattle.fb_check.specs.types.Checks.{is_right_block}
use Rattle.fb_check.proofs.lemmas.types.Checks.{wrong_answer}
use Rattle.fb_check.specs.types.KindsWrong.{are_set_right, are_set_right_inside, is_all_right}
use Rattle.fb_check.proofs.lemmas.types.NetworkTests.{network_passes}

pub none_wrong :
    (lib : Library) → list_all (is_all_right lib) lib.blocks ≡ true → are_set_right lib lib.application.network ≡ true → ¬ (KindWrong lib)
none_wrong lib blocks application wrong =
    let parts = and_parts (list_all is_right_block lib.blocks) (list_all (are_set_right_inside lib) lib.blocks)
    (sym (list_all-both is_right_block (are_set_right_inside lib) lib.blocks) ∙ blocks) in
    let no_part : ¬ (PartWrong lib) = λ w. true≢false (sym ((wrong_answer lib true (sym parts.0)).1 w)) in
    elim wrong [
      | inl chart ↦ no_part (inl chart)
      | inr rest ↦ elim rest [
        | inl value ↦ no_part (inr value)
        | inr p ↦
            let set = network_passes (λ n. are_set_right lib n.1) lib p.0 application parts.1 p.2 in
            true≢false (sym (passes_at (parameters_right lib) p.0.1.instances p.1 set p.3) ∙ p.4)
      ]
    ]
