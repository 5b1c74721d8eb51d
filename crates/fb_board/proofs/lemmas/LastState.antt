-- What the last state of a board reveals: `words` are read after the table is closed, and `values` come out of its slots.
use Rattle.std.proofs.Common.{◌≡◌, ◌≢◌, ℕ, ◌+◌, ◌<◌, List, length, get_or, slice_get, Some, Contains, sym, ap, ◌∙◌, subst}
use mathlib.Core.Option.{some}
use lib.ListN.{get_elem?}
use Rattle.atomic_table.specs.Table.{Final, Seen}
use Rattle.fb_board.specs.declared.rule.SlotContent.{SlotContent}
use Rattle.fb_board.specs.declared.rule.SlotContent.TheVariants.{Home}
use Rattle.fb_board.specs.declared.rule.View.{View}
use Rattle.fb_board.specs.Claims.{Knows, MeetsRule, flag}
use Rattle.fb_board.specs.Moment.{Moment, IsLeastOut}
use Rattle.fb_board.proofs.lemmas.Counts.{is_there}
use Rattle.fb_board.proofs.lemmas.OneState.{back_raised}
use Rattle.std.proofs.lemmas.Option.{slice_get_within}

module _ {J D : Type 0} (does : J → D → Type 0) (jobs : List J) (seat : ℕ) (v : View J) (words : List ℕ) (values : List (SlotContent J D))
    (last : Final (Seen (MeetsRule does jobs) seat v) words values) where
  flag_is : (k : ℕ) → flag last.0 k ≡ get_or words (k + 1) 0
  flag_is k = ap (λ ws. get_or ws (k + 1) 0) last.2

  last_moment : Moment does jobs v
  last_moment = record { state = last.0; kept = last.1.0; here = subst (λ i. Knows last.0 i v) (sym (last.1.0.seats.numbered seat v last.1.1)) last.1.1 }

  pub least_out : (k : ℕ) → get_or words (k + 1) 0 ≢ 1 → ((i : ℕ) → i < k → get_or words (i + 1) 0 ≡ 1) → IsLeastOut does jobs v k
  unfolding last_moment
  least_out k out before = record { moment = last_moment; out = (λ e. out (sym (flag_is k) ∙ e)); least = λ i l. flag_is i ∙ before i l }

  pub not_put_back : (k : ℕ) → get_or words (k + 1) 0 ≢ 1 → ¬ Contains v.back k
  not_put_back k out back = out (sym (flag_is k) ∙ back_raised last.0 last.1.0 seat v last.1.1 k back)

  module _ (raised : (i : ℕ) → i < length jobs → get_or words (i + 1) 0 ≡ 1) where
    pub all_home : (k : ℕ) → k < length jobs → (done : D) × (get_elem? values k ≡ some (Home done))
    all_home k room =
        let job = is_there jobs k room in let home = last.1.0.home k job.0 job.1 (flag_is k ∙ raised k room) in
        (home.0, last.4 k (Home home.0) home.1)

    pub each_does : (k : ℕ) (job : J) (done : D) → slice_get jobs k ≡ Some job → get_elem? values k ≡ some (Home done) → does job done
    each_does k job done there value =
        let home = last.1.0.home k job there (flag_is k ∙ raised k (slice_get_within jobs k job there)) in
        let same_slot : get_elem? values k ≡ some (Home home.0) = last.4 k (Home home.0) home.1 in
        let same : home.0 ≡ done = cc in subst (does job) same home.2
