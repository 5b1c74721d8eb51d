use Rattle.fb_types.proofs.Common.{◌≡◌, ◌^◌, ℕ, not, sym, ap, ◌∙◌, inl, inr, nat_le, nat_lt, cases_lt, le-leb, le-ltb, lt-leb, lt-ltb}
use Rattle.fb_inputs.proofs.stimuli.is_late.Goals as goal

above : (a b : ℕ) → nat_lt a b ≡ not (nat_le b a)
above a b =
    elim (cases_lt a b) [
      | inl lt ↦ lt-ltb a b lt ∙ sym (ap not (lt-leb b a lt))
      | inr le ↦ le-ltb a b le ∙ sym (ap not (le-leb b a le))
    ]

pub returns : goal.returns
returns c = above (10 ^ 12) c.args.tick
