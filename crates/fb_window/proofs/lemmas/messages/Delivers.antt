-- Messages on their way come onto the agendas of their receivers: what a resource then is, where the core exchanges all messages.
use Rattle.fb_window.proofs.lemmas.Common.{◌≡◌, ℕ, zero, suc, ◌<◌, ◌≤◌, ◌==◌, Bool, true, false, cond, Option, Some, None, List, [], ◌∷◌, ◌++◌, map, refl, sym, ap, ◌∙◌, ⊎_elim, arith, All, slice_get, option_map, filter, All-nil, All-head, All-tail, Inputs, system_of, Core, Member, exchanged, found, Machine, Item, machine, count_of, Key, Message, IsMessage, arriving, receiver_of, IsLawful, World, IsFor, IsOf, Resource, Sits}
use Rattle.fb_types.proofs.Common.{flat_map, if◌then◌else◌, eq-eqb, All-cons, All-append, same_key, or_else, Local}
use Rattle.fb_types.specs.States as model
use Rattle.fb_types.proofs.lemmas.lists.Lookups.{none_since, or_else_nones, or_else_parts, same_cases}
use Rattle.fb_link.specs.Exchanges.{keyed}
use Rattle.fb_resource.specs.Resources.{HasReceived, Represents, with_messages}
use Rattle.fb_window.specs.Standing.{IsQuiet}
use Rattle.fb_laws.proofs.lemmas.schedules.AtHome.{arrives_at_clock, outbox_sends}
use Rattle.fb_laws.proofs.lemmas.schedules.Keeps.{Inv}

-- ---- Lists

pub map_append : {X Y : Type 0} (f : X → Y) (xs ys : List X) → map f (xs ++ ys) ≡ map f xs ++ map f ys
map_append f [] ys = refl
map_append f (x ∷ xs) ys = ap (λ z. f x ∷ z) (map_append f xs ys)

pub map_flat : {X Y A : Type 0} (f : X → Y) (g : A → List X) (boxes : List A) → map f (flat_map g boxes) ≡ flat_map (λ a. map f (g a)) boxes
map_flat f g [] = refl
map_flat f g (a ∷ boxes) = map_append f (g a) (flat_map g boxes) ∙ ap (λ z. map f (g a) ++ z) (map_flat f g boxes)

pub map_at : {X Y : Type 0} (f : X → Y) (xs : List X) (n : ℕ) (x : X) → slice_get xs n ≡ Some x → slice_get (map f xs) n ≡ Some (f x)
map_at f [] n x e = absurd (let g : None ≡ Some x = e in cc)
map_at f (y ∷ ys) zero x e = let g : y ≡ x = cc in ap (λ z. Some (f z)) g
map_at f (y ∷ ys) (suc n) x e = map_at f ys n x e

pub all_by_index : {X : Type 0} (P : X → Type 0) (xs : List X) → ((n : ℕ) (x : X) → slice_get xs n ≡ Some x → P x) → All P xs
all_by_index P [] h = All-nil P
all_by_index P (x ∷ xs) h = All-cons P x xs (h 0 x refl) (all_by_index P xs (λ n y e. h (suc n) y e))

pub all_flat : {X A : Type 0} (P : X → Type 0) (g : A → List X) (boxes : List A) → ((s : ℕ) (a : A) → slice_get boxes s ≡ Some a → All P (g a)) → All P (flat_map g boxes)
all_flat P g [] h = All-nil P
all_flat P g (a ∷ boxes) h = All-append P (g a) (flat_map g boxes) (h 0 a refl) (all_flat P g boxes (λ s b e. h (suc s) b e))

pub all_filter : {X : Type 0} (P : X → Type 0) (p : X → Bool) (xs : List X) → All (λ x. p x ≡ true → P x) xs → All P (filter p xs)
all_filter P p [] h = All-nil P
all_filter {X} P p (x ∷ xs) h = step (p x) (All-head (λ y. p y ≡ true → P y) x xs h) (all_filter P p xs (All-tail (λ y. p y ≡ true → P y) x xs h))
  where
    step : (b : Bool) → (b ≡ true → P x) → All P (filter p xs) → All P (cond b (x ∷ filter p xs) (filter p xs))
    step true f g = All-cons P x (filter p xs) (f refl) g
    step false f g = g

-- ---- What is under keys

-- no message is under a key of another class
pub found_class : (i : Inputs) (ms : List Message) (j : Key) → (j.class == 2) ≡ false → found j (map (arriving i) ms) ≡ None
found_class i [] j e = refl
found_class i (m ∷ ms) j e =
    or_else_nones _ _ (found_class i ms j e)
    (⊎_elim
    (λ s. absurd (let f : 2 ≡ j.class = ap (λ (z : Key). z.class) s in let g = eq-eqb j.class 2 (sym f) in let h : true ≡ false = sym g ∙ e in cc))
    (λ s. ap (λ b. if b then Some (arriving i m).1 else None) s)
    (same_cases (arriving i m).0 j))

pub found_keyed : (i : Inputs) (ms : List Message) (j : Key) → found j (map (arriving i) ms) ≡ option_map (λ m. (arriving i m).1) (found j (keyed (system_of i) ms))
found_keyed i [] j = refl
found_keyed i (m ∷ ms) j = step (found j (map (arriving i) ms)) (found j (keyed (system_of i) ms)) (same_key (arriving i m).0 j) (found_keyed i ms j)
  where
    step : (a : Option model.Event) (b : Option Message) (same : Bool) → a ≡ option_map (λ n. (arriving i n).1) b
        → or_else a (if same then Some (arriving i m).1 else None) ≡ option_map (λ n. (arriving i n).1) (or_else b (if same then Some m else None))
    step a None true e = rw e refl
    step a None false e = rw e refl
    step a (Some n) true e = rw e refl
    step a (Some n) false e = rw e refl

-- ---- What a resource represents

pub stands_alike : (i : Inputs) (limit : ℕ) (l n : Local (machine (system_of i) limit)) (x : Resource) → Represents i limit l x → n.part ≡ l.part → n.stop ≡ l.stop → ((j : Key) → n.own j ≡ l.own j)
    → ((j : Key) → j.resource ≡ x.tree.resource → n.inbox j ≡ l.inbox j) → ((j : Key) → (j.class == 2) ≡ false → n.inbox j ≡ None) → Represents i limit n x
stands_alike i limit l n x s part stop own inbox class = record {
  state = s.state;
  part = part ∙ s.part;
  blocks = s.blocks;
  typed = s.typed;
  unused = s.unused;
  counts = s.counts;
  own = λ j e. own j ∙ s.own j e;
  inbox = class;
  waits = λ j e. ap (λ o. or_else o (n.inbox j)) (own j) ∙ ap (λ o. or_else (l.own j) o) (inbox j e) ∙ s.waits j e;
  stop = stop ∙ s.stop;
}

-- ---- The exchange

-- The resource at an index is what a member of the core has there, which may have an outbox that is not empty.
pub record IsBackAs (i : Inputs) (limit : ℕ) (m : Member (machine (system_of i) limit)) (r : ℕ) (y : Resource) : Type 0 where
  pub number : y.tree.resource ≡ r
  pub of : IsOf i y
  pub state : Represents i limit m.state y
  pub clock : m.clock ≡ y.clock

-- All are at home, and what is on its way is under its keys in this list.
module _ (i : Inputs) (limit horizon : ℕ) (d : Core (machine (system_of i) limit)) (all : List Message)
    (law : IsLawful (machine (system_of i) limit)) (w : World (machine (system_of i) limit)) (runs : ℕ → List (Item (machine (system_of i) limit)))
    (v : Inv (machine (system_of i) limit) horizon w d runs) (home : (r : ℕ) → (d r).out ≡ None)
    (out_found : (k : Key) → found k (d ((machine (system_of i) limit).sender k)).outbox ≡ found k (map (arriving i) all)) where
  abbrev M : Machine
  M = machine (system_of i) limit

  -- a message may be received
  pub fits : (s : ℕ) (m : Message) (x : model.Event) → found (arriving i m).0 (d s).outbox ≡ Some x → IsMessage i m
      → (r : ℕ) (y : Resource) → y.tree.resource ≡ r → (d r).clock ≡ y.clock → receiver_of (system_of i) m ≡ r → IsFor i y m
  fits s m x f message r y number clock to =
      let late : (d (arriving i m).0.resource).clock ≤ (arriving i m).0.tick =
      arrives_at_clock M law horizon w d runs v s (arriving i m).0 x (home (arriving i m).0.resource) f in
      let here : (d (receiver_of (system_of i) m)).clock ≡ y.clock = ap (λ (z : ℕ). (d z).clock) to ∙ clock in
      record { message = message; here = to ∙ sym number; later = omega arith }

  -- the inbox after the exchange
  inbox_is : (r : ℕ) (j : Key) → (exchanged M d r).state.inbox j ≡ or_else (found j (map (arriving i) all)) ((d r).state.inbox j)
  inbox_is r j = ap (λ o. or_else o ((d r).state.inbox j)) (out_found j)

  inbox_class : (r : ℕ) (y : Resource) → Represents i limit (d r).state y → (j : Key) → (j.class == 2) ≡ false → (exchanged M d r).state.inbox j ≡ None
  inbox_class r y s j e = inbox_is r j ∙ or_else_nones _ _ (found_class i all j e) (s.inbox j e)

  -- where nothing is on its way
  pub sits_still : (r : ℕ) (y : Resource) → IsBackAs i limit (d r) r y → all ≡ [] → Sits i limit (exchanged M d r) r y
  sits_still r y b none = record {
    number = b.number;
    of = b.of;
    state = stands_alike i limit (d r).state (exchanged M d r).state y b.state refl refl (λ j. refl)
        (λ j f. inbox_is r j ∙ ap (λ ms. or_else (found j (map (arriving i) ms)) ((d r).state.inbox j)) none) (inbox_class r y b.state);
    clock = b.clock;
    home = home r;
    posted = refl;
  }

  -- who has received these messages, under whose keys is what is there of all
  pub sits_received : (r : ℕ) (y u : Resource) (ms : List Message) → IsBackAs i limit (d r) r y → All (IsFor i y) ms
      → ((j : Key) → j.resource ≡ r → found j (map (arriving i) ms) ≡ found j (map (arriving i) all)) → HasReceived ms y u → Sits i limit (exchanged M d r) r u
  sits_received r y u ms b fit last g =
      let there : u.tree.resource ≡ y.tree.resource = ap (λ (q : Resource). q.tree.resource) g.besides in
      record {
        number = there ∙ b.number;
        of = g.of i b.of fit;
        state = stands_alike i limit (with_messages i limit ms (d r).state) (exchanged M d r).state u (g.represents i limit b.of fit (d r).state b.state) refl refl (λ j. refl)
            (λ j e. inbox_is r j ∙ ap (λ o. or_else o ((d r).state.inbox j)) (sym (last j (e ∙ there ∙ b.number))))
            (inbox_class r y b.state);
        clock = b.clock ∙ ap (λ (q : Resource). q.clock) (sym g.besides);
        home = home r;
        posted = refl;
      }

  -- who has nothing to do has nothing still
  pub still_quiet : ((k : Key) (sent : ℕ) → (machine (system_of i) limit).Arrives k sent → k.resource < count_of (system_of i))
      → (r : ℕ) → count_of (system_of i) ≤ r → IsQuiet (machine (system_of i) limit) (d r) r → IsQuiet (machine (system_of i) limit) (exchanged (machine (system_of i) limit) d r) r
  still_quiet links r l q = record {
    live = q.live;
    home = home r;
    posted = refl;
    waits = λ k e.
        let p = or_else_parts ((d r).state.own k) ((d r).state.inbox k) (q.waits k e) in
        or_else_nones _ _ p.0 (or_else_nones _ _ (none_since _ (λ x f. let s = outbox_sends M law horizon w d runs v (M.sender k) k x f in let g = links k s.sent s.arrives in omega arith)) p.1);
  }
