-- What a table of a rule and a document give, where their keys are there.
use Rattle.fb_types.proofs.Common.{◌≡◌, ℕ, ◌+◌, Bool, true, false, List, length, Some, None, refl, sym, ap, subst, ◌∙◌, arith, codes, nat_tests, Option, is_some, option_map, not, ◌&&◌, ◌==◌, if◌then◌else◌}
use Rattle.toml.specs.Data.{Data, Members, get_member, as_str}
use Rattle.fb_expect.specs.Drafts.{RuleText, count_of, never, one_if, rules_in, values_of}
use Rattle.fb_expect.specs.Lists.{◌>>=◌, may}
use Rattle.fb_expect.specs.Words.{Text}
use Rattle.fb_expect.specs.declared.document.NeedDraft.TheVariants.{Never}

equal : (m n : ℕ) → m ≡ n → (m == n) ≡ true
equal m n is =
    let same : (m == m) ≡ true = grind (arith, nat_tests) in
    subst (λ (k : ℕ). (m == k) ≡ true) is same

-- an option, and what is seen of it
pub some_seen : {A B : Type 0} (f : A → B) (o : Option A) → is_some o ≡ is_some (option_map f o)
some_seen f None = refl
some_seen f (Some x) = refl

abbrev pub never_rule : (name first : Text) → (here : Bool) → (s t : Option Text) → Option RuleText
never_rule name first here s t = Some (record { name = name; need = Never (not here); first = first; second = s; third = t; same = None; turns = None })

pub never_is :
    (keys : Members) (name first : Text) (s t : Option Text) (here : Bool) (n a b : ℕ) → Some s ≡ may as_str (get_member (codes "from") keys) → Some t ≡ may as_str (get_member (codes "to") keys)
    → n ≡ count_of keys → a ≡ one_if (is_some s) → b ≡ one_if (is_some t) → n ≡ 2 + a + b → here ≡ is_some s → never_rule name first here s t ≡ never keys name first
unfolding never
never_is keys name first s t here n a b second third counted one two fits there =
    let full : (count_of keys == 2 + one_if (is_some s) + one_if (is_some t)) ≡ true =
    equal (count_of keys) (2 + one_if (is_some s) + one_if (is_some t))
    (sym counted ∙ fits ∙ ap (λ (k : ℕ). 2 + k + b) one ∙ ap (λ (k : ℕ). 2 + one_if (is_some s) + k) two)
    in
    ap (λ (h : Bool). never_rule name first h s t) there
    ∙ sym (
    ap
    (λ (o : Option (Option Text)). o >>= λ x. may as_str (get_member (codes "to") keys) >>= λ y.
    if count_of keys == 2 + one_if (is_some x) + one_if (is_some y) then never_rule name first (is_some x) x y else None)
    (sym second)
    ∙ ap (λ (o : Option (Option Text)). o >>= λ y. if count_of keys == 2 + one_if (is_some s) + one_if (is_some y) then never_rule name first (is_some s) s y else None) (sym third)
    ∙ ap (λ (h : Bool). if h then never_rule name first (is_some s) s t else None) full
    )

pub rules_are :
    (keys : Members) (d : Data) (ds : List Data) (n : ℕ) → Some d ≡ get_member (codes "rule") keys → Some ds ≡ values_of d → n ≡ count_of keys → n ≡ 1 → false ≡ (length ds == 0)
    → Some ds ≡ rules_in keys
unfolding rules_in
rules_are keys d ds n there values counted one some =
    sym (
    ap (λ (o : Option Data). o >>= λ x. values_of x >>= λ xs. if (count_of keys == 1) && not (length xs == 0) then Some xs else None) (sym there)
    ∙ ap (λ (o : Option (List Data)). o >>= λ xs. if (count_of keys == 1) && not (length xs == 0) then Some xs else None) (sym values)
    ∙ ap (λ (b : Bool). if b && not (length ds == 0) then Some ds else None) (equal (count_of keys) 1 (sym counted ∙ one))
    ∙ ap (λ (b : Bool). if true && not b then Some ds else None) (sym some)
    )

pub none_there : (keys : Members) → None ≡ get_member (codes "rule") keys → None ≡ rules_in keys
unfolding rules_in
none_there keys there =
    sym (ap (λ (o : Option Data). o >>= λ x. values_of x >>= λ xs. if (count_of keys == 1) && not (length xs == 0) then Some xs else None) (sym there))

pub no_values : (keys : Members) (d : Data) → Some d ≡ get_member (codes "rule") keys → None ≡ values_of d → None ≡ rules_in keys
unfolding rules_in
no_values keys d there values =
    sym (
    ap (λ (o : Option Data). o >>= λ x. values_of x >>= λ xs. if (count_of keys == 1) && not (length xs == 0) then Some xs else None) (sym there)
    ∙ ap (λ (o : Option (List Data)). o >>= λ xs. if (count_of keys == 1) && not (length xs == 0) then Some xs else None) (sym values)
    )
