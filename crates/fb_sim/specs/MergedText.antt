-- Lines of several lists, taken tick by tick and list by list (this project's profile).
use Rattle.std.specs.Prelude.{◌≡◌, ℕ, suc, ◌+◌, ◌<◌, ◌≤◌, nat_lt, if◌then◌else◌, List, [], ◌∷◌, ◌++◌, map, Vec}
use Rattle.std.specs.List.{filter}
use Rattle.std.specs.List.Sorted.{IsPermutation, ties}
use Rattle.std.specs.declared.alloc.Global.{Global}
use Rattle.std.specs.Ordering.{is_lt, nat_cmp}
use Rattle.fb_types.specs.Headline.{Inputs, system_of}
use Rattle.fb_types.specs.Machines.{Each}
use Rattle.fb_types.specs.Numbers.{line_of}
use Rattle.fb_types.specs.Text.{lines_text}
use Rattle.fb_types.specs.declared.run.Form.{Form}
use Rattle.fb_types.specs.declared.run.Line.{Line}
use Rattle.fb_trace.specs.Fronts.{joint}
use Rattle.fb_trace.specs.Merging.{Rises, tick_of}
use Rattle.fb_sim.specs.declared.rounds.merge_text.Cut.{Cut}

-- All lines of the lists; where the ticks of none fall, by tick, those of a tick list by list and in their own order.
pub record IsWoven (lists : List (List Line)) (all : List Line) : Type 0 where
  pub whole : IsPermutation (joint lists) all
  pub rises : Each (Rises tick_of) lists → Rises tick_of all
  pub stable : Each (Rises tick_of) lists → (x : Line)
      → filter (ties (λ y z. is_lt (nat_cmp (tick_of y) (tick_of z))) x) all ≡ filter (ties (λ y z. is_lt (nat_cmp (tick_of y) (tick_of z))) x) (joint lists)

-- a text of all lines of the lists, so
pub record IsMergedText (i : Inputs) (form : Form) (lists : List (List Line)) (text : List ℕ) : Type 0 where
  pub all : List Line
  pub woven : IsWoven lists all
  pub is : text ≡ lines_text form (system_of i) (map (line_of (system_of i)) all)

-- all bytes, one text after another
abbrev pub all_bytes : List (Vec ℕ Global) → List ℕ
all_bytes [] = []
all_bytes (v ∷ vs) = v.items ++ all_bytes vs

-- the tick before which the lines of the list at an index are before a cut
abbrev pub until : Cut → (index : ℕ) → ℕ
until p n = if nat_lt n p.list then p.tick + 1 else p.tick

-- Each list from an index on is in two parts: at the cut, where its ticks do not fall.
abbrev pub AreCut : (cut : Cut) (index : ℕ) → (lists firsts lasts : List (List Line)) → Type 0
AreCut p n [] [] [] = Unit {0}
AreCut p n [] [] (bs ∷ lasts) = ⊥
AreCut p n [] (ps ∷ firsts) lasts = ⊥
AreCut p n (xs ∷ lists) [] lasts = ⊥
AreCut p n (xs ∷ lists) (ps ∷ firsts) [] = ⊥
AreCut p n (xs ∷ lists) (ps ∷ firsts) (bs ∷ lasts) =
    (xs ≡ ps ++ bs)
    × (Rises tick_of xs → Each (λ x. tick_of x < until p n) ps × Each (λ x. until p n ≤ tick_of x) bs)
    × AreCut p (suc n) lists firsts lasts

-- Each list is in two parts, at one cut.
abbrev pub AreDivided : (lists firsts lasts : List (List Line)) → Type 0
AreDivided lists firsts lasts = (cut : Cut) × AreCut cut 0 lists firsts lasts
