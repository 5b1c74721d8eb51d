-- Messages come from all outboxes onto the agendas of their receivers: so the resources are where the exchange brings the core.
use Rattle.fb_window.proofs.lemmas.Common.{◌≡◌, ℕ, zero, suc, ◌<◌, ◌≤◌, true, Some, None, List, [], ◌∷◌, map, length, refl, sym, ap, ◌∙◌, subst, ⊎_elim, arith, All, Vec, slice_get, slice_index_or, option_map, filter, cases_lt, eqb-true, Inputs, system_of, Core, Member, exchanged, found, Machine, Item, machine, count_of, Key, Line, Message, IsMessage, arriving, receiver_of, all_of, IsLawful, World, IsFor, Resource, ArePosted, after_loan, IsAt, Sits, Home}
use Rattle.fb_types.proofs.Common.{All-permutation}
use Rattle.fb_types.specs.States as model
use Rattle.fb_link.specs.Exchanges.{AreFor, goes_to}
use Rattle.fb_window.specs.Standing.{IsQuiet}
use Rattle.fb_laws.proofs.lemmas.schedules.AtHome.{outbox_sends}
use Rattle.fb_laws.proofs.lemmas.resources.Outboxes.{found_in, found_some, found_with_sender}
use Rattle.fb_types.proofs.lemmas.lists.ByIndex.{all_at}
use Rattle.fb_window.proofs.lemmas.messages.Delivers.{IsBackAs, all_by_index, all_filter, all_flat, fits, found_keyed, map_at, map_flat, sits_received, sits_still, still_quiet}
use Rattle.fb_laws.proofs.lemmas.schedules.Keeps.{Inv}
use Rattle.fb_laws.proofs.lemmas.schedules.Phasing.{after_loans}
use Rattle.fb_laws.proofs.lemmas.lists.Indexes.{is_at, one_at}
use Rattle.fb_window.proofs.lemmas.phases.Loans.{AreBack}

-- ---- The exchange

module _ (i : Inputs) (limit horizon : ℕ) (c : Core (machine (system_of i) limit)) (bounds : List ℕ) (workers : ℕ → ℕ) (xs : List Resource) (lists : List (Vec Line)) (h : Home)
    (at : IsAt i limit c xs) (b : AreBack i limit horizon c bounds workers xs lists h) (counted : length h.resources.items ≡ count_of (system_of i)) (boxed : length h.outboxes.items ≡ count_of (system_of i))
    (law : IsLawful (machine (system_of i) limit)) (w : World (machine (system_of i) limit)) (runs : ℕ → List (Item (machine (system_of i) limit)))
    (v : Inv (machine (system_of i) limit) horizon w (after_loans (machine (system_of i) limit) c b.loans) runs)
    (links : (k : Key) (sent : ℕ) → (machine (system_of i) limit).Arrives k sent → k.resource < count_of (system_of i)) where
  abbrev M : Machine
  M = machine (system_of i) limit

  abbrev d : Core (machine (system_of i) limit)
  d = after_loans (machine (system_of i) limit) c b.loans

  abbrev box_of : Vec Message → List (Key × model.Event)
  box_of a = map (arriving i) a.items

  abbrev all : List Message
  all = all_of h.outboxes.items

  quiet : (r : ℕ) → count_of (system_of i) ≤ r → d r ≡ c r
  quiet r l = ap (λ o. after_loan M (c r) o) (b.others r l)

  home : (r : ℕ) → (d r).out ≡ None
  home r = ⊎_elim (λ l. (b.each r l).back.home) (λ l. ap (λ (s : Member M). s.out) (quiet r l) ∙ (at.others r l).home) (cases_lt r (count_of (system_of i)))

  -- an outbox as a list
  box_is : (s : ℕ) (a : Vec Message) → slice_get h.outboxes.items s ≡ Some a → (d s).outbox ≡ box_of a
  box_is s a e =
      let l : s < count_of (system_of i) = let f = is_at h.outboxes.items s a e in omega arith in
      let it = b.each s l in
      it.back.posted ∙ ap box_of (one_at h.outboxes.items s it.at.sent a it.at.sent_at e)

  box_found : (k : Key) → found k (d (M.sender k)).outbox ≡ found_in box_of k (slice_get h.outboxes.items (M.sender k))
  box_found k =
      ⊎_elim
      (λ l. let it = b.each (M.sender k) l in ap (λ z. found k z) (box_is (M.sender k) it.at.sent it.at.sent_at) ∙ ap (λ o. found_in box_of k o) (sym it.at.sent_at))
      (λ l. ap (λ z. found k z) (ap (λ (s : Member M). s.outbox) (quiet (M.sender k) l) ∙ (at.others (M.sender k) l).posted) ∙ ap (λ o. found_in box_of k o) (sym (past h.outboxes.items (M.sender k) (omega arith))))
      (cases_lt (M.sender k) (count_of (system_of i)))
    where
      past : {A : Type 0} (boxes : List A) (n : ℕ) → length boxes ≤ n → slice_get boxes n ≡ None
      past [] n l = refl
      past (a ∷ boxes) zero l = absurd (omega arith)
      past (a ∷ boxes) (suc n) l = past boxes n (omega arith)

  -- under a key is in the outbox of its sender what is in all messages
  out_found : (k : Key) → found k (d (M.sender k)).outbox ≡ found k (map (arriving i) all)
  out_found k =
      box_found k
      ∙ sym (found_with_sender box_of k M.sender h.outboxes.items
      (λ s a e x f. (outbox_sends M law horizon w d runs v s k x (ap (λ z. found k z) (box_is s a e) ∙ f)).sender))
      ∙ ap (λ z. found k z) (sym (map_flat (arriving i) (λ (a : Vec Message). a.items) h.outboxes.items))

  -- what a resource is when it is back
  as_back : (r : ℕ) (l : r < count_of (system_of i)) → IsBackAs i limit (d r) r (b.each r l).at.new
  as_back r l = let it = (b.each r l).back in record { number = it.number; of = it.of; state = it.state; clock = it.clock }

  -- each message may be received
  due : (r : ℕ) (y : Resource) → y.tree.resource ≡ r → (d r).clock ≡ y.clock → All (λ m. receiver_of (system_of i) m ≡ r → IsFor i y m) all
  due r y number clock =
      all_flat (λ m. receiver_of (system_of i) m ≡ r → IsFor i y m) (λ (a : Vec Message). a.items) h.outboxes.items
      (λ s a e. all_by_index (λ m. receiver_of (system_of i) m ≡ r → IsFor i y m) a.items
      (λ n m f to.
      let l : s < count_of (system_of i) = let g = is_at h.outboxes.items s a e in omega arith in
      let it = b.each s l in
      let same : it.at.sent ≡ a = one_at h.outboxes.items s it.at.sent a it.at.sent_at e in
      let x = found_some (box_of a) n (arriving i m) (map_at (arriving i) a.items n m f) in
      fits i limit horizon d all law w runs v home out_found s m x.0 (ap (λ z. found (arriving i m).0 z) (box_is s a e) ∙ x.1)
      (all_at (IsMessage i) a.items n m (subst (λ (z : Vec Message). All (IsMessage i) z.items) same it.back.messages) f) r y number clock to))

  due_to : (r : ℕ) (y : Resource) (ms : List Message) → y.tree.resource ≡ r → (d r).clock ≡ y.clock → AreFor (system_of i) r all ms → All (IsFor i y) ms
  due_to r y ms number clock f =
      All-permutation (IsFor i y) (filter (goes_to (system_of i) r) all) ms f.those
      (all_filter (IsFor i y) (goes_to (system_of i) r) all
      (all_map all (λ m g to. g (eqb-true (receiver_of (system_of i) m) r to)) (due r y number clock)))
    where
      all_map : (ms : List Message) → ((m : Message) → (receiver_of (system_of i) m ≡ r → IsFor i y m) → goes_to (system_of i) r m ≡ true → IsFor i y m)
          → All (λ m. receiver_of (system_of i) m ≡ r → IsFor i y m) ms → All (λ m. goes_to (system_of i) r m ≡ true → IsFor i y m) ms
      all_map ms g a k x l = g (slice_index_or ms k x) (a k x l)

  sits : (zs : List Resource) → ArePosted (system_of i) all h.resources.items zs → (r : ℕ) (z : Resource) → slice_get zs r ≡ Some z → Sits i limit (exchanged M d r) r z
  sits zs posted r z e =
      let l : r < count_of (system_of i) = let f = is_at zs r z e in let g = posted.counted in omega arith in
      let it = b.each r l in
      let y = it.at.new in
      let p = posted.each r y it.at.new_at in
      let same : p.0 ≡ z = one_at zs r p.0 z p.1 e in
      subst (λ (u : Resource). Sits i limit (exchanged M d r) r u) same
      (⊎_elim
      (λ q. subst (λ (u : Resource). Sits i limit (exchanged M d r) r u) (sym q.1) (sits_still i limit horizon d all law w runs v home out_found r y (as_back r l) q.0))
      (λ q.
      sits_received i limit horizon d all law w runs v home out_found r y p.0 q.0 (as_back r l) (due_to r y q.0 it.back.number it.back.clock q.1)
      (λ j f. found_keyed i q.0 j ∙ ap (λ o. option_map (λ m. (arriving i m).1) o) (q.1.last j f) ∙ sym (found_keyed i all j)) q.2)
      p.2)

  is_quiet : (r : ℕ) → count_of (system_of i) ≤ r → IsQuiet M (exchanged M d r) r
  is_quiet r l = still_quiet i limit horizon d all law w runs v home out_found links r l (subst (λ (s : Member M). IsQuiet M s r) (sym (quiet r l)) (at.others r l))

  -- The resources are where the core is after the exchange.
  pub is_posted : (zs : List Resource) → ArePosted (system_of i) all h.resources.items zs → IsAt i limit (exchanged M d) zs
  is_posted zs posted = record { counted = posted.counted ∙ counted; each = sits zs posted; others = is_quiet }
