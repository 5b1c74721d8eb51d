-- What the numbers of resources and links represent.
use Rattle.fb_types.proofs.Common.{◌≡◌, ℕ, zero, suc, ◌<◌, ◌+◌, Bool, true, false, cond, nat_eq, ◌&&◌, List, [], ◌∷◌, length, map, get_or, Option, Some, None, refl, sym, ◌∙◌, ap, inl, arith, position, slice_get, unwrap_or, option_map, true≢false, false_from_ne_true, nat_tests, slice_get-map, slice_get-get_or, same_Some, Name, same_name, holder, resource_names_of, NameTwice, Twice}
use Rattle.fb_types.specs.declared.library.Library.{Library}
use Rattle.fb_types.specs.declared.library.Instance.{Instance}
use Rattle.fb_types.specs.declared.deploy.Plan.{Plan}
use Rattle.fb_types.specs.declared.deploy.Link.{Link}
use Rattle.fb_types.specs.declared.deploy.ResourceEntry.{ResourceEntry}
use Rattle.fb_types.specs.Flat.{resource_named, name_of_resource}
use Rattle.fb_types.proofs.lemmas.names.NameLaws.{same_name-Decides, same_from_same_name}
use Rattle.fb_types.proofs.lemmas.lists.Positions.{position-cons, position_is, position_of_once}
use Rattle.fb_check_names.proofs.lemmas.twice.NameTwice.{plan_twice}
use Rattle.fb_check_names.specs.Numbers.{IsResolved, each_or_none, link_ends, index_of}
use Rattle.fb_check_names.specs.declared.numbers.LinkEnds.{LinkEnds}
use Rattle.fb_check_names.specs.declared.numbers.Resolved.{Resolved}
use Rattle.fb_types.proofs.lemmas.lists.Options.{and_then_parts, map_parts}
use Rattle.fb_check_names.proofs.lemmas.Each.{each_parts}
use Rattle.fb_system.specs.Linking.{IsLinked, holders_of, joins}

-- ---- Elements of two lists, one of which was made from the other

abbrev number_at : {A : Type 0} → (A → ℕ) → Option A → ℕ
number_at f o = elim o [ None ↦ 0 | Some x ↦ f x ]

each_read :
    {A B : Type 0} (f : A → Option B) (g : A → ℕ) (h : B → ℕ) (xs : List A) (zs : List B) (i : ℕ) → each_or_none f xs ≡ Some zs
    → ((x : A) (z : B) → f x ≡ Some z → h z ≡ g x) → number_at h (slice_get zs i) ≡ number_at g (slice_get xs i)
each_read {A} {B} f g h [] zs i e same =
    let none : [] ≡ zs = cc in ap (λ (ys : List B). number_at h (slice_get ys i)) (sym none)
each_read {A} {B} f g h (x ∷ xs) zs zero e same =
    let p = each_parts f x xs zs e in ap (λ (ys : List B). number_at h (slice_get ys 0)) p.4 ∙ same x p.0 p.2
each_read {A} {B} f g h (x ∷ xs) zs (suc i) e same =
    let p = each_parts f x xs zs e in
    ap (λ (ys : List B). number_at h (slice_get ys (suc i))) p.4 ∙ each_read f g h xs p.1 i p.3 same

each_position :
    {A B : Type 0} (f : A → Option B) (p : A → Bool) (q : B → Bool) (xs : List A) (zs : List B) → each_or_none f xs ≡ Some zs
    → ((x : A) (z : B) → f x ≡ Some z → q z ≡ p x) → position q zs ≡ position p xs
each_position f p q [] zs e same = let none : [] ≡ zs = cc in ap (position q) (sym none)
each_position f p q (x ∷ xs) zs e same =
    let r = each_parts f x xs zs e in
    ap (position q) r.4
    ∙ position-cons q r.0 r.1
    ∙ (λ j. cond (same x r.0 r.2 j) (Some 0) (option_map (λ i. i + 1) (each_position f p q xs r.1 r.3 same j)))
    ∙ sym (position-cons p x xs)

-- ---- Links

abbrev the_ends : ℕ → ℕ → LinkEnds
the_ends x y = record { from = x; to = y }

link_parts :
    (plan : Plan) (l : Link) (e : LinkEnds) → link_ends plan l ≡ Some e
    → (index_of (resource_names_of plan) l.from ≡ Some e.from) × (index_of (resource_names_of plan) l.to ≡ Some e.to)
link_parts plan l e h =
    let names = resource_names_of plan in
    let a = and_then_parts (λ (x : ℕ). option_map (λ (y : ℕ). the_ends x y) (index_of names l.to)) (index_of names l.from) e h in
    let b = map_parts (λ (y : ℕ). the_ends a.0 y) (index_of names l.to) e a.2 in
    (a.1 ∙ ap (λ (z : LinkEnds). Some z.from) b.2, b.1 ∙ ap (λ (z : LinkEnds). Some z.to) b.2)

-- ---- Resources

from_nat_eq : (m n : ℕ) → nat_eq m n ≡ true → m ≡ n
from_nat_eq m n h = grind (arith, nat_tests)

nat_eq_from : (m n : ℕ) → m ≡ n → nat_eq m n ≡ true
nat_eq_from m n h = grind (arith, nat_tests)

-- a name is that of a resource exactly if the indexes are equal
named_index :
    (plan : Plan) (n : Name) (k r : ℕ) → ¬ (Twice (resource_names_of plan)) → r < length plan.resources → index_of (resource_names_of plan) n ≡ Some k
    → nat_eq k r ≡ same_name n (name_of_resource plan r)
named_index plan n k r once h found =
    let rs = plan.resources in
    let own : ResourceEntry → Name = λ x. x.name in
    let at = position_is own n rs k found in
    let it : ResourceEntry = get_or rs r at.0 in
    let there : slice_get rs r ≡ Some it = slice_get-get_or rs r at.0 h in
    let named : name_of_resource plan r ≡ own it =
    ap (λ (o : Option Name). unwrap_or o []) (slice_get-map own rs r ∙ ap (option_map own) there) in
    elim (nat_eq k r) as (λ b. nat_eq k r ≡ b → b ≡ same_name n (name_of_resource plan r)) [
      | true ↦ λ e.
          let is : at.0 ≡ it = same_Some at.0 it (sym at.1 ∙ ap (slice_get rs) (from_nat_eq k r e) ∙ there) in
          sym ((same_name-Decides n (name_of_resource plan r)).1 (sym at.2 ∙ ap own is ∙ sym named))
      | false ↦ λ e.
          sym (false_from_ne_true (same_name n (name_of_resource plan r)) (λ t.
          let s : n ≡ own it = same_from_same_name n (name_of_resource plan r) t ∙ named in
          let p : index_of (resource_names_of plan) n ≡ Some r =
          ap (λ (m : Name). position (same_name m) (map own rs)) s ∙ position_of_once own rs r it once there in
          true≢false (sym (nat_eq_from k r (same_Some k r (sym found ∙ p))) ∙ e)))
    ] refl

resource_at : (plan : Plan) (n : Name) (k : ℕ) → index_of (resource_names_of plan) n ≡ Some k → k ≡ resource_named plan n
resource_at plan n k h = sym (ap (λ (o : Option ℕ). unwrap_or o 0) h)

-- ---- All numbers

pub linked_from :
    (lib : Library) (plan : Plan) (numbers : Resolved) (holders : List ℕ) (ends : List LinkEnds) → IsResolved lib plan numbers → ¬ (NameTwice lib plan)
    → holders ≡ holders_of lib plan → ends ≡ numbers.links
    → IsLinked lib plan (record { holders = holders; ends = ends })
linked_from lib plan numbers holders ends resolved once held same =
    let all : each_or_none (link_ends plan) plan.links ≡ Some ends = resolved.links ∙ ap (λ (es : List LinkEnds). Some es) (sym same) in
    let differ : ¬ (Twice (resource_names_of plan)) = λ t. once (plan_twice lib plan (inl t)) in
    let of : Instance → ℕ = λ i. holder plan i.name in
    record {
      holders = λ i n h.
          ap (λ (hs : List ℕ). unwrap_or (slice_get hs i) 0) held
          ∙ ap (λ (o : Option ℕ). unwrap_or o 0) (slice_get-map of lib.application.network.instances i ∙ ap (option_map of) h);
      links = λ r s a b.
          each_position (link_ends plan) (λ l. same_name l.from (name_of_resource plan r) && same_name l.to (name_of_resource plan s)) (joins r s) plan.links ends all
          (λ l e g.
          let p = link_parts plan l e g in
          λ j. named_index plan l.from e.from r differ a p.0 j && named_index plan l.to e.to s differ b p.1 j);
      senders = λ l.
          each_read (link_ends plan) (λ y. resource_named plan y.from) (λ e. e.from) plan.links ends l all
          (λ y e g. resource_at plan y.from e.from (link_parts plan y e g).0);
      receivers = λ l.
          each_read (link_ends plan) (λ y. resource_named plan y.to) (λ e. e.to) plan.links ends l all
          (λ y e g. resource_at plan y.to e.to (link_parts plan y e g).1);
    }
