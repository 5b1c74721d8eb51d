-- The stimulus of a row, by what is read of its fields.
use Rattle.fb_inputs.proofs.lemmas.Common.{◌≡◌, Bool, true, false, not, ◌+◌, ◌<◌, ◌≤◌, ◌^◌, ℕ, List, [], ◌∷◌, Option, Some, None, Ok, Err, refl, sym, ◌∙◌, arith, option_map, nat_le, le-leb, lt-ltb, RowFault, each_at, value_at, setting, stimulus, Text}
use Rattle.fb_types.proofs.Common.{min, leb-false, leb-true, le-ltb, lt-leb, not-true, same_Some}
use Rattle.fb_types.specs.declared.deploy.Setting.{Setting}
use Rattle.std.proofs.lemmas.Bool.{not-false}
use Rattle.fb_inputs.specs.declared.location.RowFault.TheVariants as fault
use Rattle.fb_inputs.specs.declared.row.Draft.{Draft}
use Rattle.fb_inputs.specs.Numbers.{natural}
use Rattle.fb_inputs.specs.Rows.{draft}
use Rattle.fb_inputs.specs.Stimuli.{limited, most_rows, three}

-- a tick as it is read: the number, or one more than the greatest tick
abbrev read_tick : Option ℕ → Option ℕ
read_tick o = option_map (λ n. min n (10 ^ 12 + 1)) o

unread : (o : Option ℕ) → None ≡ read_tick o → o ≡ None
unread None h = refl
unread (Some n) h = absurd cc

-- whether a tick is over the greatest one
pub is_over : (m : ℕ) (b : Bool) → b ≡ not (nat_le m (10 ^ 12)) → b ≡ true → 10 ^ 12 < m
is_over m b is over = leb-false m (10 ^ 12) (not-true (nat_le m (10 ^ 12)) (sym is ∙ over))

pub is_not_over : (m : ℕ) (b : Bool) → b ≡ not (nat_le m (10 ^ 12)) → b ≡ false → m ≤ 10 ^ 12
is_not_over m b is within = leb-true m (10 ^ 12) (not-false (nat_le m (10 ^ 12)) (sym is ∙ within))

module _ (before : ℕ) (t e v : Text) where
  pub refused_draft : (p : RowFault) → draft e v ≡ Err p → stimulus before (t ∷ e ∷ v ∷ []) ≡ Err p
  unfolding stimulus three
  refused_draft p h = rw h refl

  module _ (d : Draft) (drawn : draft e v ≡ Ok d) where
    no_number : natural t ≡ None → stimulus before (t ∷ e ∷ v ∷ []) ≡ Err fault.Tick
    unfolding stimulus three
    no_number h = rw (drawn, h) refl

    pub no_tick : None ≡ read_tick (natural t) → stimulus before (t ∷ e ∷ v ∷ []) ≡ Err fault.Tick
    no_tick h = no_number (unread (natural t) h)

    numbered : (n : ℕ) (settings : List Setting) → natural t ≡ Some n → each_at value_at setting 0 d.words ≡ Ok settings
        → stimulus before (t ∷ e ∷ v ∷ []) ≡ limited before (record { tick = n; instance = d.instance; event = d.event; settings = settings })
    unfolding stimulus three
    numbered n settings h read = rw (drawn, h, read) refl

    refused_value : (n : ℕ) (p : RowFault) → natural t ≡ Some n → each_at value_at setting 0 d.words ≡ Err p → stimulus before (t ∷ e ∷ v ∷ []) ≡ Err p
    unfolding stimulus three
    refused_value n p h read = rw (drawn, h, read) refl

    pub refused_settings : (m : ℕ) (p : RowFault) → Some m ≡ read_tick (natural t) → each_at value_at setting 0 d.words ≡ Err p → stimulus before (t ∷ e ∷ v ∷ []) ≡ Err p
    refused_settings m p tick read = by (natural t) refl tick
      where
        by : (o : Option ℕ) → natural t ≡ o → Some m ≡ read_tick o → stimulus before (t ∷ e ∷ v ∷ []) ≡ Err p
        by None is h = absurd cc
        by (Some n) is h = refused_value n p is read

    -- what follows from the settings, by the number that is the tick
    by_number :
        (m : ℕ) (settings : List Setting) → Some m ≡ read_tick (natural t) → each_at value_at setting 0 d.words ≡ Ok settings
        → (n : ℕ) × (m ≡ min n (10 ^ 12 + 1))
        × (stimulus before (t ∷ e ∷ v ∷ []) ≡ limited before (record { tick = n; instance = d.instance; event = d.event; settings = settings }))
    by_number m settings tick read = by (natural t) refl tick
      where
        by : (o : Option ℕ) → natural t ≡ o → Some m ≡ read_tick o
            → (n : ℕ) × (m ≡ min n (10 ^ 12 + 1))
            × (stimulus before (t ∷ e ∷ v ∷ []) ≡ limited before (record { tick = n; instance = d.instance; event = d.event; settings = settings }))
        by None is h = absurd cc
        by (Some n) is h = (n, same_Some m (min n (10 ^ 12 + 1)) h, numbered n settings is read)

    module _ (m : ℕ) (settings : List Setting) (tick : Some m ≡ read_tick (natural t)) (read : each_at value_at setting 0 d.words ≡ Ok settings) where
      pub too_late : 10 ^ 12 < m → stimulus before (t ∷ e ∷ v ∷ []) ≡ Err fault.Late
      too_late over =
          let (n, is, whole) = by_number m settings tick read in
          whole ∙ rw (lt-leb n (10 ^ 12) (omega (arith, is, over))) refl

      pub too_many : m ≤ 10 ^ 12 → most_rows ≤ before → stimulus before (t ∷ e ∷ v ∷ []) ≡ Err fault.Crowded
      too_many within many =
          let (n, is, whole) = by_number m settings tick read in
          whole ∙ rw (le-leb n (10 ^ 12) (omega (arith, is, within)), le-ltb before most_rows many) refl

      pub accepted : m ≤ 10 ^ 12 → before < most_rows → stimulus before (t ∷ e ∷ v ∷ []) ≡ Ok (record { tick = m; instance = d.instance; event = d.event; settings = settings })
      accepted within few =
          let (n, is, whole) = by_number m settings tick read in
          let same : n ≡ m = omega (arith, is, within) in
          whole ∙ rw (le-leb n (10 ^ 12) (omega (arith, is, within)), lt-ltb before most_rows few, same) refl
