-- What the jobs gave comes home as it is, where no line was kept and no resource has rested.
use Rattle.fb_window.proofs.lemmas.Common.{◌≡◌, ℕ, suc, ◌+◌, true, false, Option, Some, None, List, [], ◌∷◌, ◌++◌, length, map, refl, sym, ap, ◌∙◌, subst, append_assoc, arith, All, Vec, AllZip, is_some, slice_get, All-head, All-tail, Line, Message, StopMark, Resource, WindowDone, Ran, Edge, AreCut, AreAwaited, Does, jobs_of, resting_of, Home}
use Rattle.fb_resource.specs.declared.resource.WindowDone.TheVariants.{NoMemory}
use Rattle.fb_window.specs.Homes.{HasGiven}
use Rattle.fb_window.specs.Texts.{HasLines, IsFrontOf}

pub is_none : {X : Type 0} (o : Option X) → is_some o ≡ false → o ≡ None
is_none None e = refl
is_none (Some x) e = absurd (let f : true ≡ false = e in cc)

zip_push : {A B : Type 0} (R : A → B → Type 0) (xs : List A) (ys : List B) (x : A) (y : B) → AllZip R xs ys → R x y → AllZip R (xs ++ x ∷ []) (ys ++ y ∷ [])
zip_push R [] [] x y h r = (r, tt)
zip_push R [] (v ∷ ys) x y h r = absurd h
zip_push R (u ∷ xs) [] x y h r = absurd h
zip_push R (u ∷ xs) (v ∷ ys) x y h r = (h.0, zip_push R xs ys x y h.1 r)

-- none has come home yet
pub given_none : (kept : List (Vec Line)) (dones : List WindowDone) (h : Home) → All (λ p. p.items ≡ []) kept → h.pending.items ≡ [] → HasGiven dones kept dones h
given_none kept dones h none empty = record {
  none = none;
  seen = [];
  are = refl;
  lines = subst (λ (z : List (Vec Line)). AllZip HasLines z []) (sym empty) tt;
}

-- one more comes, after whose kept lines, of which there are none, its own are put
pub given_more : (dones : List WindowDone) (k new lines : Vec Line) (ks : List (Vec Line)) (y : Resource) (sent : Vec Message) (stop : Option StopMark) (ds : List WindowDone) (old after : Home)
    → HasGiven dones (k ∷ ks) (Ran y new sent stop ∷ ds) old → after.pending.items ≡ old.pending.items ++ lines ∷ [] → lines.items ≡ k.items ++ new.items → HasGiven dones ks ds after
given_more dones k new lines ks y sent stop ds old after g pushed joined =
    let d = Ran y new sent stop in
    let none : k.items ≡ [] = All-head (λ (p : Vec Line). p.items ≡ []) k ks g.none in
    let has : lines.items ≡ new.items = joined ∙ ap (λ (z : List Line). z ++ new.items) none in
    record {
      none = All-tail (λ (p : Vec Line). p.items ≡ []) k ks g.none;
      seen = g.seen ++ d ∷ [];
      are = g.are ∙ sym (append_assoc g.seen (d ∷ []) ds);
      lines = subst (λ (z : List (Vec Line)). AllZip HasLines z (g.seen ++ d ∷ [])) (sym pushed) (zip_push HasLines old.pending.items g.seen lines d g.lines has);
    }

no_jobs : (ds : List WindowDone) → AllZip Does [] ds → ds ≡ []
no_jobs [] h = refl
no_jobs (d ∷ ds) h = absurd h

-- where no resource is awaited, no done value is left
none_left : (ks : List (Vec Line)) (ds : List WindowDone) → AreAwaited [] ks ds → ds ≡ []
none_left ks ds a = go a.resources a.is a.done
  where
    go : (xs : List Resource) → [] ≡ map resting_of xs → AllZip Does (jobs_of a.inputs a.limit a.bounds a.index xs) ds → ds ≡ []
    go [] is done = no_jobs ds done
    go (x ∷ xs) is done = absurd (let f : [] ≡ resting_of x ∷ map resting_of xs = is in cc)

append_none : {X : Type 0} (xs : List X) → xs ++ [] ≡ xs
append_none [] = refl
append_none (x ∷ xs) = ap (λ z. x ∷ z) (append_none xs)

-- so all that the jobs gave has come
pub given_all : (dones : List WindowDone) (kept : List (Vec Line)) (left : List WindowDone) (h : Home) → HasGiven dones kept left h → AreAwaited [] kept left → AllZip HasLines h.pending.items dones
given_all dones kept left h g a =
    let all : dones ≡ g.seen = g.are ∙ ap (λ (z : List WindowDone). g.seen ++ z) (none_left kept left a) ∙ append_none g.seen in
    subst (λ (z : List WindowDone). AllZip HasLines h.pending.items z) (sym all) g.lines

front_of : (front list : Vec Line) (d : WindowDone) (rest : List Line) → list.items ≡ front.items ++ rest → HasLines list d → IsFrontOf front d
front_of front list (Ran x lines sent stop) rest is has = (rest, sym has ∙ is)
front_of front list NoMemory rest is has = absurd has

-- What is final of it are the first lines.
pub fronts_given : (e : Edge) (lists fronts rests : List (Vec Line)) (dones : List WindowDone) → AreCut e lists fronts rests → AllZip HasLines lists dones → AllZip IsFrontOf fronts dones
fronts_given e lists fronts rests dones cut given =
    go lists fronts dones cut.fronts (λ r list at. let s = cut.each r list at in (s.0, s.2, s.1.items, s.4.parts)) given
  where
    go : (xs fs : List (Vec Line)) (ds : List WindowDone) → length fs ≡ length xs
        → ((r : ℕ) (x : Vec Line) → slice_get xs r ≡ Some x → (f : Vec Line) × (slice_get fs r ≡ Some f) × (rest : List Line) × (x.items ≡ f.items ++ rest))
        → AllZip HasLines xs ds → AllZip IsFrontOf fs ds
    go [] [] [] n each h = tt
    go [] [] (d ∷ ds) n each h = absurd h
    go [] (f ∷ fs) ds n each h = absurd (omega (arith, n))
    go (x ∷ xs) [] ds n each h = absurd (omega (arith, n))
    go (x ∷ xs) (f ∷ fs) [] n each h = absurd h
    go (x ∷ xs) (f ∷ fs) (d ∷ ds) n each h =
        let s = each 0 x refl in
        let same : s.0 ≡ f = let g : Some f ≡ Some s.0 = s.1 in cc in
        (front_of f x d s.2 (subst (λ (z : Vec Line). x.items ≡ z.items ++ s.2) same s.3) h.0, go xs fs ds (omega (arith, n)) (λ r y at. each (suc r) y at) h.1)
