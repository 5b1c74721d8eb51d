-- A search of the states to which edges lead.
use Rattle.fb_types.proofs.Common.{◌≡◌, ◌+◌, ◌*◌, ◌<◌, length, arith, Bool, true, false, cond, not, List, [], ◌∷◌, ◌++◌, map, Contains, refl, sym, ◌∙◌, ap, subst, inl, inr, ◌⊎◌, filter, true≢false, length-append, length-map, Contains-append_left, Contains-append_right, Contains-append_cases, Contains-push, Contains-push_cases, among, Name, same_name}
use Rattle.std.proofs.lemmas.List.Filters.{length-filter_both}
use Rattle.fb_types.proofs.lemmas.lists.Elements.{Contains-nil, Contains-cons_cases, Contains-here, Contains-there, Contains-map, map-Contains}
use Rattle.fb_types.proofs.lemmas.names.NameLaws.{same_name-itself, same_from_same_name, contains_from_any, any_from_contains}
use Rattle.fb_lint.specs.Reached.{Edge, leads, AreReached}
use Rattle.fb_lint.proofs.lemmas.Edges.{leads-itself, leads-on, leads-edge, leads-closed, same_truth}

-- ---- Elements that pass a test

in_filter : {A : Type 0} (p : A → Bool) (xs : List A) (x : A) → Contains xs x → p x ≡ true → Contains (filter p xs) x
in_filter p [] x c h = absurd (Contains-nil x c)
in_filter {A} p (y ∷ ys) x c h =
    elim (Contains-cons_cases y ys x c) [
      | inl e ↦
          let here : Contains (y ∷ filter p ys) x = subst (λ (z : A). Contains (y ∷ filter p ys) z) e (Contains-here y (filter p ys)) in
          subst (λ (b : Bool). Contains (cond b (y ∷ filter p ys) (filter p ys)) x) (sym (ap p e ∙ h)) here
      | inr rest ↦
          elim (p y) as (λ b. Contains (cond b (y ∷ filter p ys) (filter p ys)) x) [
            | true ↦ Contains-there y (filter p ys) x (in_filter p ys x rest h)
            | false ↦ in_filter p ys x rest h
          ]
    ]

from_filter : {A : Type 0} (p : A → Bool) (xs : List A) (x : A) → Contains (filter p xs) x → Contains xs x × (p x ≡ true)
from_filter p [] x c = absurd (Contains-nil x c)
from_filter {A} p (y ∷ ys) x c =
    elim (p y) as (λ b. p y ≡ b → Contains (cond b (y ∷ filter p ys) (filter p ys)) x → Contains (y ∷ ys) x × (p x ≡ true)) [
      | true ↦ λ e c. elim (Contains-cons_cases y (filter p ys) x c) [
        | inl same ↦ (subst (λ (z : A). Contains (y ∷ ys) z) same (Contains-here y ys), ap p (sym same) ∙ e)
        | inr rest ↦ let r = from_filter p ys x rest in (Contains-there y ys x r.0, r.1)
      ]
      | false ↦ λ e c. let r = from_filter p ys x c in (Contains-there y ys x r.0, r.1)
    ] refl c

-- ---- The search

abbrev pub leaving : Name → List Edge → List Edge
leaving s es = filter (λ e. same_name s e.0) es

abbrev pub staying : Name → List Edge → List Edge
staying s es = filter (λ e. not (same_name s e.0)) es

abbrev pub ends : List Edge → List Name
ends es = map (λ e. e.1) es

-- The states that are done, those that are still to do, and the edges that leave none that is done.
pub record Reaching (es : List Edge) (initial : Name) (rest : List Edge) (todo done : List Name) : Type 0 where
  pub sound : (n : Name) → Contains (todo ++ done) n → leads es initial n ≡ true
  pub begun : Contains (todo ++ done) initial
  pub parted : (e : Edge) → Contains es e → Contains rest e ⊎ Contains (todo ++ done) e.1
  pub within : (e : Edge) → Contains rest e → Contains es e
  pub clear : (e : Edge) → Contains rest e → ¬ (Contains done e.0)

pub reaching_first : (es : List Edge) (initial : Name) → Reaching es initial es (initial ∷ []) []
reaching_first es initial =
    record {
      sound = λ n c. elim (Contains-cons_cases initial [] n c) [
        | inl e ↦ subst (λ (m : Name). leads es initial m ≡ true) e (leads-itself es initial)
        | inr none ↦ absurd (Contains-nil n none)
      ];
      begun = Contains-here initial [];
      parted = λ e c. inl c;
      within = λ e c. c;
      clear = λ e c none. Contains-nil e.0 none;
    }

-- what was to do or done still is
stays :
    (todo moved done : List Name) (s n : Name) → Contains ((todo ++ s ∷ []) ++ done) n → Contains ((todo ++ moved) ++ (done ++ s ∷ [])) n
stays todo moved done s n c =
    elim (Contains-append_cases (todo ++ s ∷ []) done n c) [
      | inl to ↦ elim (Contains-push_cases todo s n to) [
        | inl old ↦ Contains-append_left (todo ++ moved) (done ++ s ∷ []) n (Contains-append_left todo moved n old)
        | inr same ↦ subst (λ (m : Name). Contains ((todo ++ moved) ++ (done ++ s ∷ [])) m) same (Contains-append_right (todo ++ moved) (done ++ s ∷ []) s (Contains-push done s))
      ]
      | inr old ↦ Contains-append_right (todo ++ moved) (done ++ s ∷ []) n (Contains-append_left done (s ∷ []) n old)
    ]

pub reaching_next :
    (es : List Edge) (initial : Name) (rest : List Edge) (todo done : List Name) (s : Name) → Reaching es initial rest (todo ++ s ∷ []) done
    → Reaching es initial (staying s rest) (todo ++ ends (leaving s rest)) (done ++ s ∷ [])
reaching_next es initial rest todo done s before =
    record { sound = sound; begun = stays todo moved done s initial before.begun; parted = parted; within = λ e c. before.within e (from_filter (λ e. not (same_name s e.0)) rest e c).0; clear = clear }
  where
    moved : List Name
    moved = ends (leaving s rest)

    old_sound : (n : Name) → Contains ((todo ++ s ∷ []) ++ done) n → leads es initial n ≡ true
    old_sound n c = before.sound n c

    to_s : leads es initial s ≡ true
    to_s = before.sound s (Contains-append_left (todo ++ s ∷ []) done s (Contains-push todo s))

    of_moved : (n : Name) → Contains (ends (leaving s rest)) n → leads es initial n ≡ true
    of_moved n c =
        let w = map-Contains (λ (e : Edge). e.1) (leaving s rest) n c in
        let f = from_filter (λ (e : Edge). same_name s e.0) rest w.0 w.1 in
        let edge : leads es w.0.0 w.0.1 ≡ true = leads-edge es w.0 (before.within w.0 f.0) in
        let from : leads es s w.0.1 ≡ true = subst (λ (m : Name). leads es m w.0.1 ≡ true) (sym (same_from_same_name s w.0.0 f.1)) edge in
        subst (λ (m : Name). leads es initial m ≡ true) w.2 (leads-on es initial s w.0.1 to_s from)

    sound : (n : Name) → Contains ((todo ++ ends (leaving s rest)) ++ (done ++ s ∷ [])) n → leads es initial n ≡ true
    sound n c =
        elim (Contains-append_cases (todo ++ ends (leaving s rest)) (done ++ s ∷ []) n c) [
          | inl to ↦ elim (Contains-append_cases todo (ends (leaving s rest)) n to) [
            | inl old ↦ old_sound n (Contains-append_left (todo ++ s ∷ []) done n (Contains-append_left todo (s ∷ []) n old))
            | inr new ↦ of_moved n new
          ]
          | inr d ↦ elim (Contains-push_cases done s n d) [
            | inl old ↦ old_sound n (Contains-append_right (todo ++ s ∷ []) done n old)
            | inr same ↦ subst (λ (m : Name). leads es initial m ≡ true) same to_s
          ]
        ]

    parted : (e : Edge) → Contains es e → Contains (staying s rest) e ⊎ Contains ((todo ++ ends (leaving s rest)) ++ (done ++ s ∷ [])) e.1
    parted e c =
        elim (before.parted e c) [
          | inl r ↦
              elim (same_name s e.0) as (λ b. same_name s e.0 ≡ b → Contains (staying s rest) e ⊎ Contains ((todo ++ ends (leaving s rest)) ++ (done ++ s ∷ [])) e.1) [
                | true ↦ λ q.
                    let at : Contains (leaving s rest) e = in_filter (λ (x : Edge). same_name s x.0) rest e r q in
                    inr (Contains-append_left (todo ++ ends (leaving s rest)) (done ++ s ∷ []) e.1 (Contains-append_right todo (ends (leaving s rest)) e.1 (Contains-map (λ (x : Edge). x.1) (leaving s rest) e at)))
                | false ↦ λ q. inl (in_filter (λ (x : Edge). not (same_name s x.0)) rest e r (ap not q))
              ] refl
          | inr was ↦ inr (stays todo (ends (leaving s rest)) done s e.1 was)
        ]

    clear : (e : Edge) → Contains (staying s rest) e → ¬ (Contains (done ++ s ∷ []) e.0)
    clear e c d =
        let f = from_filter (λ (x : Edge). not (same_name s x.0)) rest e c in
        elim (Contains-push_cases done s e.0 d) [
          | inl old ↦ before.clear e f.0 old
          | inr same ↦
              let t : same_name s e.0 ≡ true = subst (λ (m : Name). same_name s m ≡ true) same (same_name-itself s) in
              true≢false (sym f.1 ∙ ap not t)
        ]

-- nothing is left to do
pub reaching_all : (es : List Edge) (initial : Name) (rest : List Edge) (done : List Name) → Reaching es initial rest [] done → AreReached es initial done
reaching_all es initial rest done all n = same_truth (among done n) (leads es initial n) there back
  where
    there : among done n ≡ true → leads es initial n ≡ true
    there h = all.sound n (contains_from_any n done h)

    closed : (e : Edge) → Contains es e → Contains done e.0 → Contains done e.1
    closed e c d = elim (all.parted e c) [ inl r ↦ absurd (all.clear e r d) | inr there ↦ there ]

    back : leads es initial n ≡ true → among done n ≡ true
    back h = any_from_contains n done (leads-closed (Contains done) es initial n closed all.begun h)

-- ---- By other names

pub reaching_first_at :
    (es : List Edge) (initial : Name) (rest : List Edge) (todo done : List Name) → rest ≡ es → todo ≡ initial ∷ [] → done ≡ [] → Reaching es initial rest todo done
reaching_first_at es initial rest todo done rest_is todo_is done_is =
    subst (λ (d : List Name). Reaching es initial rest todo d) (sym done_is)
    (subst (λ (t : List Name). Reaching es initial rest t []) (sym todo_is)
    (subst (λ (r : List Edge). Reaching es initial r (initial ∷ []) []) (sym rest_is) (reaching_first es initial)))

pub reaching_next_at :
    (es : List Edge) (initial : Name) (rest later : List Edge) (before todo after done more : List Name) (s : Name) → before ≡ todo ++ s ∷ []
    → later ≡ staying s rest → after ≡ todo ++ ends (leaving s rest) → more ≡ done ++ s ∷ [] → Reaching es initial rest before done → Reaching es initial later after more
reaching_next_at es initial rest later before todo after done more s before_is later_is after_is more_is reaching =
    subst (λ (d : List Name). Reaching es initial later after d) (sym more_is)
    (subst (λ (t : List Name). Reaching es initial later t (done ++ s ∷ [])) (sym after_is)
    (subst (λ (r : List Edge). Reaching es initial r (todo ++ ends (leaving s rest)) (done ++ s ∷ [])) (sym later_is)
    (reaching_next es initial rest todo done s (subst (λ (t : List Name). Reaching es initial rest t done) before_is reaching))))

pub reaching_all_at :
    (es : List Edge) (initial : Name) (rest : List Edge) (todo done : List Name) → todo ≡ [] → Reaching es initial rest todo done → AreReached es initial done
reaching_all_at es initial rest todo done none reaching =
    reaching_all es initial rest done (subst (λ (t : List Name). Reaching es initial rest t done) none reaching)

-- each edge is followed once, and each name is taken once
pub fewer :
    (rest later : List Edge) (before todo after : List Name) (s : Name) → before ≡ todo ++ s ∷ [] → later ≡ staying s rest → after ≡ todo ++ ends (leaving s rest)
    → 2 * length later + length after < 2 * length rest + length before
fewer rest later before todo after s before_is later_is after_is =
    let parts = length-filter_both (λ (e : Edge). same_name s e.0) (λ (e : Edge). not (same_name s e.0)) (λ e. refl) rest in
    let one : length before ≡ length todo + 1 = ap length before_is ∙ length-append todo (s ∷ []) in
    let two : length later ≡ length (staying s rest) = ap length later_is in
    let three : length after ≡ length todo + length (ends (leaving s rest)) = ap length after_is ∙ length-append todo (ends (leaving s rest)) in
    let four : length (ends (leaving s rest)) ≡ length (leaving s rest) = length-map (leaving s rest) (λ (e : Edge). e.1) in
    omega (arith, parts, one, two, three, four)

pub nothing : {A : Type 0} (xs : List A) → length xs ≡ 0 → xs ≡ []
nothing [] h = refl
nothing (x ∷ xs) h = absurd (omega (arith, h))
