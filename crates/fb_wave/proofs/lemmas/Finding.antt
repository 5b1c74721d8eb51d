-- How the port of a line is found by its text.
use Rattle.fb_wave.proofs.lemmas.Common.{◌≡◌, ℕ, zero, suc, ◌-◌, ◌≤◌, Bool, true, false, List, [], ◌∷◌, ◌++◌, length, map, take, get_or, codes, Contains, Some, None, refl, sym, ap, subst, ◌∙◌, inl, inr, arith, append_assoc, length-append, if◌then◌else◌, option_map, slice_get, take-append_seam, length-map, slice_get-map, system_of, Name, event_at, path_at, Twice, System, path_text, AreNames, HasNames, IsPortOf, holder_name, port_text, side, IsCut, is_ended, is_word, Port}
use Rattle.fb_types.proofs.Common.{is_some, position, true≢false, append_cancel_left, same_Some, slice_get_past, same_name}
use Rattle.fb_types.proofs.lemmas.lists.ByIndex.{all_at, element_of_index, index_of_element}
use Rattle.fb_types.proofs.lemmas.lists.Elements.{Contains-here, Contains-map}
use Rattle.fb_types.proofs.lemmas.names.NameLaws.{any_from_contains}
use Rattle.fb_types.proofs.lemmas.lists.Positions.{is_some-position, position_is}
use Rattle.fb_check_names.specs.Indexes.{index_in}
use Rattle.fb_wave.specs.Ports.{BeginsWith}
use Rattle.std.proofs.Math.Logic.{∥∥₁_elim}
use Rattle.std.proofs.Props.{props}
use Rattle.fb_wave.specs.Words.{AreThree, HasNoThree, HasThree, three}
use Rattle.fb_wave.specs.declared.table.PortTable.{PortTable}
use Rattle.fb_wave.proofs.lemmas.Cutting.{cut_once, uncut, word_once}
use Rattle.fb_wave.proofs.lemmas.Lining.{event_named, path_named}
use Rattle.fb_wave.proofs.lemmas.Plain.{name_word, names_rest, path_word, word_both}

-- ---- Three words

three_parts : (u v w r : List ℕ) → (u ++ 32 ∷ (v ++ 32 ∷ w)) ++ r ≡ u ++ 32 ∷ (v ++ 32 ∷ (w ++ r))
three_parts u v w r = simp append_assoc

-- a text begins with three words in one way at most
pub three_words :
    (text u v w r a b c q : List ℕ) → AreThree text u v w r → AreThree text a b c q → (u ≡ a) × (v ≡ b) × (w ≡ c) × (r ≡ q)
three_words text u v w r a b c q are other =
    let one = word_once u a (32 ∷ (v ++ 32 ∷ (w ++ r))) (32 ∷ (b ++ 32 ∷ (c ++ q))) are.one other.one refl refl
    (sym (three_parts u v w r) ∙ sym are.parts ∙ other.parts ∙ three_parts a b c q)
    in
    let rest : v ++ 32 ∷ (w ++ r) ≡ b ++ 32 ∷ (c ++ q) = tail _ _ one.1 in
    let two = word_once v b (32 ∷ (w ++ r)) (32 ∷ (c ++ q)) are.two other.two refl refl rest in
    let last = word_once w c r q are.last other.last are.ended other.ended (tail _ _ two.1) in
    (one.0, two.0, last.0, last.1)
  where
    tail : (xs ys : List ℕ) → 32 ∷ xs ≡ 32 ∷ ys → xs ≡ ys
    tail xs ys e = cc

three_once : (text u v w r a b c q : List ℕ) → AreThree text u v w r → AreThree text a b c q → (three u v w ≡ three a b c) × (r ≡ q)
three_once text u v w r a b c q are other =
    let same = three_words text u v w r a b c q are other in
    (ap (λ (x : List ℕ). three x v w) same.0 ∙ ap (λ (x : List ℕ). three a x w) same.1 ∙ ap (three a b) same.2, same.3)

-- ---- The text of a port

word_at : (ns : List Name) (r : ℕ) → AreNames ns → is_word (get_or ns r []) ≡ true
word_at [] r are = refl
word_at (n ∷ ns) zero are = name_word n (are n (Contains-here n ns))
word_at (n ∷ ns) (suc r) are = word_at ns r (names_rest n ns are)

-- the sign of a port, without the blanks round it
abbrev pub sign : Bool → List ℕ
sign b = if b then codes ">" else codes "<"

-- what a line has of a port after the sign
abbrev pub path_event : System → Port → List ℕ
path_event sys p = (path_text (path_at sys p.instance) ++ codes ".") ++ event_at (side sys p.instance p.taken) p.event

spread_true : (h at d e : List ℕ) → (((h ++ codes " > ") ++ at) ++ d) ++ e ≡ three h (codes ">") ((at ++ d) ++ e)
spread_true h at d e = simp append_assoc

spread_false : (h at d e : List ℕ) → (((h ++ codes " < ") ++ at) ++ d) ++ e ≡ three h (codes "<") ((at ++ d) ++ e)
spread_false h at d e = simp append_assoc

pub port_is_three : (sys : System) (p : Port) → port_text sys p ≡ three (holder_name sys p.instance) (sign p.taken) (path_event sys p)
port_is_three sys p = by p.taken
  where
    h : List ℕ
    h = holder_name sys p.instance

    at : List ℕ
    at = path_text (path_at sys p.instance)

    e : List ℕ
    e = event_at (side sys p.instance p.taken) p.event

    by : (b : Bool) → (((h ++ (if b then codes " > " else codes " < ")) ++ at) ++ codes ".") ++ e ≡ three h (sign b) ((at ++ codes ".") ++ e)
    by true = spread_true h at (codes ".") e
    by false = spread_false h at (codes ".") e

sign_word : (b : Bool) → is_word (sign b) ≡ true
sign_word true = refl
sign_word false = refl

pub path_event_word : (sys : System) (p : Port) → HasNames sys → IsPortOf sys p → is_word (path_event sys p) ≡ true
path_event_word sys p names is =
    let at = path_text (path_at sys p.instance) in
    let e = event_at (side sys p.instance p.taken) p.event in
    word_both (at ++ codes ".") e (word_both at (codes ".") (path_word (path_at sys p.instance) (path_named sys p.instance names is.instance)) refl)
    (name_word e (event_named sys p names is))

-- a text that begins with that of a port begins with three words
pub begins_three :
    (sys : System) (text : List ℕ) (p : Port) (rest : List ℕ) → HasNames sys → BeginsWith sys text p rest
    → AreThree text (holder_name sys p.instance) (sign p.taken) (path_event sys p) rest
begins_three sys text p rest names begins =
    record {
      parts = begins.parts ∙ ap (λ (t : List ℕ). t ++ rest) (port_is_three sys p);
      one = word_at sys.resource_names (sys.resource (path_at sys p.instance)) names.resources;
      two = sign_word p.taken;
      last = path_event_word sys p names begins.port;
      ended = begins.ended;
    }

pub begins_once :
    (sys : System) (text : List ℕ) (p q : Port) (rest more : List ℕ) → HasNames sys → BeginsWith sys text p rest → BeginsWith sys text q more
    → (port_text sys p ≡ port_text sys q) × (rest ≡ more)
begins_once sys text p q rest more names begins other =
    let once = three_once text _ _ _ rest _ _ _ more (begins_three sys text p rest names begins) (begins_three sys text q more names other) in
    (port_is_three sys p ∙ once.0 ∙ sym (port_is_three sys q), once.1)

-- ---- The table

pub one_index : (ns : List Name) → ¬ (Twice ns) → (j k : ℕ) (n : Name) → slice_get ns j ≡ Some n → slice_get ns k ≡ Some n → j ≡ k
one_index [] once j k n e f = absurd (cc)
one_index (m ∷ ms) once zero zero n e f = refl
one_index (m ∷ ms) once zero (suc k) n e f = absurd (once (inl (subst (λ (z : Name). Contains ms z) (sym (same_Some m n e)) (element_of_index ms k n f))))
one_index (m ∷ ms) once (suc j) zero n e f = absurd (once (inl (subst (λ (z : Name). Contains ms z) (sym (same_Some m n f)) (element_of_index ms j n e))))
one_index (m ∷ ms) once (suc j) (suc k) n e f = ap suc (one_index ms (λ t. once (inr t)) j k n e f)

text_there : (sys : System) (ports : List Port) (k : ℕ) (p : Port) → slice_get ports k ≡ Some p → slice_get (map (port_text sys) ports) k ≡ Some (port_text sys p)
text_there sys ports k p at = slice_get-map (port_text sys) ports k ∙ ap (option_map (port_text sys)) at

same_at :
    (t : PortTable) (p q : Port) → Contains t.ports.now p → Contains t.ports.now q → port_text (system_of t.system.now) p ≡ port_text (system_of t.system.now) q → p ≡ q
same_at t p q there other e =
    let sys = system_of t.system.now in
    let ports = t.ports.now in
    let a = index_of_element ports p there in
    let b = index_of_element ports q other in
    let same = one_index (map (port_text sys) ports) t.index.once a.0 b.0 (port_text sys q)
    (text_there sys ports a.0 p a.1 ∙ ap (λ (n : Name). Some n) e) (text_there sys ports b.0 q b.1)
    in
    same_Some p q (sym a.1 ∙ ap (slice_get ports) same ∙ b.1)

-- two ports of a table that are written alike are one
pub same_port : (t : PortTable) → (p q : Port) → IsPortOf (system_of t.system.now) p → IsPortOf (system_of t.system.now) q → port_text (system_of t.system.now) p ≡ port_text (system_of t.system.now) q → p ≡ q
same_port t p q is other e =
    ∥∥₁_elim (t.all p is) (hlevel props) (λ a. ∥∥₁_elim (t.all q other) (hlevel props) (λ b. same_at t p q a b e))

-- the port at the index of a port's text is that port
pub port_there : (t : PortTable) → (p : Port) (k : ℕ) → IsPortOf (system_of t.system.now) p → index_in t.indexes (port_text (system_of t.system.now) p) ≡ Some k → slice_get t.ports.now k ≡ Some p
port_there t p k is found =
    let sys = system_of t.system.now in
    let ports = t.ports.now in
    let at = position_is (port_text sys) (port_text sys p) ports k (sym (t.index.index (port_text sys p)) ∙ found) in
    let same = same_port t p at.0 is (all_at (IsPortOf sys) ports k at.0 t.ports_are at.1) (sym at.2) in
    at.1 ∙ ap (λ (q : Port). Some q) (sym same)

-- the text of each port has an index
pub port_placed : (t : PortTable) → (p : Port) → IsPortOf (system_of t.system.now) p → index_in t.indexes (port_text (system_of t.system.now) p) ≡ None → ⊥
port_placed t p is none =
    let sys = system_of t.system.now in
    let names = map (port_text sys) t.ports.now in
    let n = port_text sys p in
    let gone : is_some (position (same_name n) names) ≡ false = ap is_some (sym (t.index.index n) ∙ none) in
    ∥∥₁_elim (t.all p is) (λ x y. absurd x) (λ there.
    let some : is_some (position (same_name n) names) ≡ true =
    is_some-position (same_name n) names ∙ any_from_contains n names (Contains-map (port_text sys) t.ports.now p there)
    in
    true≢false (sym some ∙ gone))

-- the front of a text as long as its three words is the text of the port that it begins with
pub front_is_port :
    (sys : System) (text : List ℕ) (p : Port) (rest : List ℕ) (size : ℕ) → HasNames sys → BeginsWith sys text p rest → HasThree text size
    → take size text ≡ port_text sys p
front_is_port sys text p rest size names begins has =
    let once = three_once text has.u has.v has.w has.rest _ _ _ rest has.are (begins_three sys text p rest names begins) in
    let long : size ≡ length (port_text sys p) = has.long ∙ ap length (once.0 ∙ sym (port_is_three sys p)) in
    ap (λ (k : ℕ). take k text) long ∙ ap (take (length (port_text sys p))) begins.parts ∙ take-append_seam (port_text sys p) rest

-- a text that goes on in the word after the text of a port does not begin with it
pub unended_port : (sys : System) (text rest : List ℕ) (p : Port) (more : List ℕ) → text ≡ port_text sys p ++ rest → BeginsWith sys text p more → is_ended rest ≡ false → ⊥
unended_port sys text rest p more parts begins on =
    let same = append_cancel_left (port_text sys p) rest more (sym parts ∙ begins.parts) in
    true≢false (sym begins.ended ∙ ap is_ended (sym same) ∙ on)

-- no element, and no text of one, past the end
pub none_past : {A : Type 0} (xs : List A) (k : ℕ) (x : A) → length xs ≤ k → slice_get xs k ≡ Some x → ⊥
none_past xs k x past at =
    let none : slice_get xs k ≡ None = slice_get_past xs k past in
    absurd (cc)

pub no_text_past : (sys : System) (ports : List Port) (texts : List Name) (k : ℕ) (p : Port) → texts ≡ map (port_text sys) ports → length texts ≤ k → slice_get ports k ≡ Some p → ⊥
no_text_past sys ports texts k p are past at =
    let same : length texts ≡ length ports = ap length are ∙ length-map ports (port_text sys) in
    none_past ports k p (subst (λ (n : ℕ). n ≤ k) same past) at

-- ---- How the three words are found

cut_three : (text u0 r0 u v w rest : List ℕ) → IsCut text u0 r0 → AreThree text u v w rest → r0 ≡ 32 ∷ (v ++ 32 ∷ (w ++ rest))
cut_three text u0 r0 u v w rest cut are = (cut_once text u0 r0 u (32 ∷ (v ++ 32 ∷ (w ++ rest))) cut are.one refl (are.parts ∙ three_parts u v w rest)).1

module _ (text u0 r0 : List ℕ) (cut : IsCut text u0 r0) where
  pub no_second : ((t : List ℕ) → r0 ≡ codes " " ++ t → ⊥) → HasNoThree text
  no_second none u v w rest are = none (v ++ 32 ∷ (w ++ rest)) (cut_three text u0 r0 u v w rest cut are)

  module _ (t : List ℕ) (blank : r0 ≡ codes " " ++ t) where
    second_is : (u v w rest : List ℕ) → AreThree text u v w rest → t ≡ v ++ 32 ∷ (w ++ rest)
    second_is u v w rest are = append_cancel_left (codes " ") t (v ++ 32 ∷ (w ++ rest)) (sym blank ∙ cut_three text u0 r0 u v w rest cut are)

    pub second_whole : is_word t ≡ true → HasNoThree text
    second_whole word u v w rest are = uncut t v (32 ∷ (w ++ rest)) word (second_is u v w rest are) refl

    module _ (v0 r1 : List ℕ) (next : IsCut t v0 r1) where
      third_cut : (u v w rest : List ℕ) → AreThree text u v w rest → r1 ≡ 32 ∷ (w ++ rest)
      third_cut u v w rest are = (cut_once t v0 r1 v (32 ∷ (w ++ rest)) next are.two refl (second_is u v w rest are)).1

      pub no_third : ((s : List ℕ) → r1 ≡ codes " " ++ s → ⊥) → HasNoThree text
      no_third none u v w rest are = none (w ++ rest) (third_cut u v w rest are)

      module _ (s : List ℕ) (gap : r1 ≡ codes " " ++ s) where
        pub third_whole : is_word s ≡ true → HasNoThree text
        third_whole word u v w rest are =
            uncut s w rest word (append_cancel_left (codes " ") s (w ++ rest) (sym gap ∙ third_cut u v w rest are)) are.ended

        pub has_three : (w0 r2 : List ℕ) → IsCut s w0 r2 → HasThree text (length text - length r2)
        has_three w0 r2 last =
            let parts : text ≡ three u0 v0 w0 ++ r2 =
            cut.parts ∙ ap (λ (x : List ℕ). u0 ++ x) (blank ∙ ap (λ (x : List ℕ). 32 ∷ x) (next.parts ∙ ap (λ (x : List ℕ). v0 ++ x) (gap ∙ ap (λ (x : List ℕ). 32 ∷ x) last.parts)))
            ∙ sym (three_parts u0 v0 w0 r2)
            in
            record {
              u = u0;
              v = v0;
              w = w0;
              rest = r2;
              are = record { parts = parts; one = cut.whole; two = next.whole; last = last.whole; ended = last.ended };
              long = omega (arith, ap length parts, length-append (three u0 v0 w0) r2);
            }
