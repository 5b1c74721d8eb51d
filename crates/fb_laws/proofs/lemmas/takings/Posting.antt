-- Local events and messages under their keys.
use Rattle.fb_laws.proofs.lemmas.Common.{◌≡◌, ℕ, ◌+◌, refl, sym, ap, ◌∙◌, subst, ⊎_elim, List, [], ◌∷◌, ◌++◌, true, Some, None, if◌then◌else◌, ◌==◌, cond-true, cond-false, ne_eqb, same_key, found, System, Arrived, Raised, Out, Sends, Posts, post, post_all, Each, IsAtResource, Key, Event, IsSound}
use Rattle.fb_types.proofs.Common.{local_key, message_key}
use Rattle.fb_types.specs.Reactions.{Local}
use Rattle.fb_types.specs.Parts.{IsArrival}
use Rattle.fb_types.proofs.lemmas.events.KeyLaws.{same_key_from}
use Rattle.fb_types.proofs.lemmas.lists.Lookups.{same_cases, or_else_some, none_some}
use Rattle.fb_types.proofs.lemmas.lists.EachLaws.{each_append}
use Rattle.fb_laws.proofs.lemmas.soundness.Outs.{IsGood}

-- what holds of each pair holds of what is found
pub each_found : {V : Type 0} (P : Key → V → Type 0) (es : List (Key × V)) → Each (λ (e : Key × V). P e.0 e.1) es → (j : Key) (v : V) → found j es ≡ Some v → P j v
each_found P [] h j v e = absurd (none_some None v refl e)
each_found {V} P (x ∷ es) h j v e =
    ⊎_elim (λ a. each_found P es h.1 j v a) (λ a. here a) (or_else_some (found j es) _ v e)
  where
    here : (if same_key x.0 j then Some x.1 else None) ≡ Some v → P j v
    here a =
        ⊎_elim
        (λ (q : x.0 ≡ j).
        let s : same_key x.0 j ≡ true = same_key_from x.0 j q in
        let b : Some x.1 ≡ Some v = sym (cond-true (same_key x.0 j) (Some x.1) None s) ∙ a in
        let c : x.1 ≡ v = cc in
        subst (λ (z : V). P j z) c (subst (λ (z : Key). P z x.1) q h.0))
        (λ n. absurd (none_some _ v (cond-false (same_key x.0 j) (Some x.1) None n) a))
        (same_cases x.0 j)

module _ (sys : System) (sound : IsSound sys) (k : Key) where
  -- a local event of the key's tick and resource
  pub record IsRaised (j : Key) (v : Event) : Type 0 where
    pub tick : j.tick ≡ k.tick
    pub resource : j.resource ≡ k.resource
    pub class : j.class ≡ 3
    pub fits : IsAtResource sys j v

  -- a message that the key's resource sends at its tick
  pub record IsSent (j : Key) (v : Event) : Type 0 where
    pub arrival : IsArrival sys j k.tick
    pub sender : sys.sender j.a ≡ k.resource
    pub fits : IsAtResource sys j v

  pub record GoodPosts (x : Posts) : Type 0 where
    pub raised : Each (λ (e : Key × Event). IsRaised e.0 e.1) x.raised
    pub messages : Each (λ (e : Key × Event). IsSent e.0 e.1) x.messages

  post_good : (o : Out) (x : Posts) → IsGood sys sound k o → GoodPosts x → GoodPosts (post sys k o x)
  post_good (Local q) x g h = record {
    raised = each_append _ x.raised _ h.raised (record { tick = refl; resource = refl; class = refl; fits = g }, tt);
    messages = h.messages;
  }
  post_good (Sends q carried) x g h = record {
    raised = h.raised;
    messages = each_append _ x.messages _ h.messages
        (record { arrival = record { class = refl; link = g.there; tick = refl; resource = sym g.receiver }; sender = g.sender; fits = refl }, tt);
  }

  pub post_all_good : (os : List Out) (x : Posts) → Each (IsGood sys sound k) os → GoodPosts x → GoodPosts (post_all sys k os x)
  post_all_good [] x g h = h
  post_all_good (o ∷ os) x g h = post_all_good os (post sys k o x) g.1 (post_good o x g.0 h)

  -- Two that count alike on the resource's links.
  pub record SamePosts (x y : Posts) : Type 0 where
    pub locals : x.locals ≡ y.locals
    pub sent : (l : ℕ) → sys.sender l ≡ k.resource → x.sent l ≡ y.sent l
    pub raised : x.raised ≡ y.raised
    pub messages : x.messages ≡ y.messages

  post_same : (o : Out) (x y : Posts) → IsGood sys sound k o → SamePosts x y → SamePosts (post sys k o x) (post sys k o y)
  post_same (Local q) x y g h = record {
    locals = ap (λ n. n + 1) h.locals;
    sent = h.sent;
    raised = λ i. h.raised i ++ (local_key k.tick k.resource (h.locals i), Raised q) ∷ [];
    messages = h.messages;
  }
  post_same (Sends q carried) x y g h =
      let s = sys.resource q.at in
      let l = sys.link k.resource s in
      let e : x.sent l ≡ y.sent l = h.sent l g.sender in
      record {
        locals = h.locals;
        sent = λ m d i. if m == l then e i + 1 else h.sent m d i;
        raised = h.raised;
        messages = λ i. h.messages i ++ (message_key (sys.arrival l k.tick) s l (e i), Arrived q carried) ∷ [];
      }

  pub post_all_same : (os : List Out) (x y : Posts) → Each (IsGood sys sound k) os → SamePosts x y → SamePosts (post_all sys k os x) (post_all sys k os y)
  post_all_same [] x y g h = h
  post_all_same (o ∷ os) x y g h = post_all_same os (post sys k o x) (post sys k o y) g.1 (post_same o x y g.0 h)

  -- the counts of the links of others stay
  post_stays : (o : Out) (x : Posts) → IsGood sys sound k o → (l : ℕ) → (sys.sender l ≡ k.resource → ⊥) → (post sys k o x).sent l ≡ x.sent l
  post_stays (Local q) x g l n = refl
  post_stays (Sends q carried) x g l n =
      let m = sys.link k.resource (sys.resource q.at) in
      cond-false (l == m) (x.sent m + 1) (x.sent l) (ne_eqb l m (λ e. n (ap sys.sender e ∙ g.sender)))

  pub post_all_stays : (os : List Out) (x : Posts) → Each (IsGood sys sound k) os → (l : ℕ) → (sys.sender l ≡ k.resource → ⊥) → (post_all sys k os x).sent l ≡ x.sent l
  post_all_stays [] x g l n = refl
  post_all_stays (o ∷ os) x g l n = post_all_stays os (post sys k o x) g.1 l n ∙ post_stays o x g.0 l n
