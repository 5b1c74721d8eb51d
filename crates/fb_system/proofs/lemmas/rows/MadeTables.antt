-- The tables that are made of a declaration and its numbers.
use Rattle.fb_system.proofs.lemmas.Common.{◌≡◌, ◌≤◌, List, length, Option, None, sym, ◌∙◌, ap, subst, slice_get, paths_of, NameTwice, Library, Plan, IsResolved, NetworkNumbers, Resolved, Layout, AreNarrow}
use Rattle.fb_types.proofs.Common.{Ok, IfOk, Result}
use Rattle.fb_check_names.specs.Numbers.{IsNetwork}
use Rattle.fb_system.specs.Layouts.{IsLayout}
use Rattle.fb_system.specs.Networks.{AreTables}

-- what a result that is Ok guarantees
pub ok_read : {A E : Type 0} (r : Result A E) (P : A → Type 0) (a : A) → IfOk r P → r ≡ Ok a → P a
ok_read {A} {E} r P a h e = subst (λ (r : Result A E). IfOk r P) e h

pub tables_made :
    (lib l : Library) (numbers : Resolved) (layout : Layout) (app : NetworkNumbers) (blocks : List (Option NetworkNumbers))
    → ((plan : Plan) × (¬ (NameTwice lib plan)) × IsResolved lib plan numbers) → length (paths_of lib) ≤ 4096 → AreNarrow lib.blocks
    → IsLayout lib layout → app ≡ numbers.application → blocks ≡ numbers.blocks → l ≡ lib → AreTables l layout app blocks
tables_made lib l numbers layout app blocks resolved few narrow is_layout e f same =
    let r = resolved.2 in
    subst (λ (l : Library). AreTables l layout app blocks) (sym same) (record {
      plan = resolved.0;
      once = resolved.1;
      few = few;
      narrow = narrow;
      is_layout = is_layout;
      is_application = subst (λ (x : NetworkNumbers). IsNetwork lib (None, lib.application.network) x) (sym e) r.application;
      are_blocks = record {
        counted = ap length f ∙ r.counted;
        basics = λ k t h. ap (λ (xs : List (Option NetworkNumbers)). slice_get xs k) f ∙ r.basics k t h;
        composites = λ k t h. let c = r.composites k t h in (c.0, ap (λ (xs : List (Option NetworkNumbers)). slice_get xs k) f ∙ c.1, c.2);
      };
    })
