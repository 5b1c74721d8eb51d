-- Algorithms and guards by their compiled forms.
use Rattle.fb_types.proofs.Common.{◌≡◌, ℕ, zero, suc, ◌<◌, length, get_or, List, [], ◌∷◌, ◌++◌, ◌⊎◌, inl, inr, map, Option, Some, None, refl, sym, ◌∙◌, ap, subst, IfSome, slice_get, map-append, slice_get_read, variable_names, expr_of, stmt_of}
use Rattle.fb_types.specs.declared.library.Algorithm.{Algorithm}
use Rattle.fb_types.specs.declared.library.BasicType.{BasicType}
use Rattle.fb_types.specs.declared.library.Transition.{Transition}
use Rattle.fb_types.specs.declared.library.Variable.{Variable}
use Rattle.fb_types.specs.declared.text.Expr.{Expr}
use Rattle.std.specs.Borrow.{Bor}
use Rattle.fb_st.specs.Frames.{Declared}
use Rattle.fb_st.specs.Made.{SaysAll, SaysTruth}
use Rattle.fb_st.specs.declared.compiled.CompiledStmt.{CompiledStmt}
use Rattle.fb_st.specs.declared.compiled.TruthExpr.{TruthExpr}
use Rattle.fb_ecc.specs.Programs.{AreBodies, AreGuards}
use Rattle.fb_ecc.specs.Sound.{declared_as, declared_by}

pub body_says : (ds : List Declared) (algorithms : List Algorithm) (bodies : List (Option (List CompiledStmt))) (i : ℕ) (a : Algorithm) (o : Option (Bor (List CompiledStmt)))
    → AreBodies ds algorithms bodies → slice_get algorithms i ≡ Some a → IfSome o (λ c. slice_get bodies i ≡ Some (Some c.now)) → IfSome o (λ c. SaysAll ds (map stmt_of a.body.statements) c.now)
body_says ds algorithms bodies i a None are at h = tt
body_says ds algorithms bodies i a (Some c) are at h = are i a c.now at h

pub guard_says : (ds : List Declared) (transitions : List Transition) (guards : List (Option TruthExpr)) (i : ℕ) (x : Transition) (e : Expr) (o : Option (Bor TruthExpr))
    → AreGuards ds transitions guards → slice_get transitions i ≡ Some x → x.condition.guard ≡ Some e → IfSome o (λ c. slice_get guards i ≡ Some (Some c.now)) → IfSome o (λ c. SaysTruth ds (expr_of e) c.now)
guard_says ds transitions guards i x e None are at is h = tt
guard_says ds transitions guards i x e (Some c) are at is h = are i x e c.now at is h

pub transition_read : (t : BasicType) (k : ℕ) (xs : List Transition) (x : Transition) → xs ≡ t.transitions → k < length xs → x ≡ get_or xs k x → slice_get t.transitions k ≡ Some x
transition_read t k xs x is within read =
    subst (λ (l : List Transition). slice_get l k ≡ Some x) is (slice_get_read xs (length xs) k x refl within read)

-- ---- One more compiled form

later : {A : Type 0} (xs : List A) (x y : A) (i : ℕ) → slice_get (xs ++ x ∷ []) i ≡ Some y → (slice_get xs i ≡ Some y) ⊎ ((i ≡ length xs) × (x ≡ y))
later [] x y zero h = inr (refl, let same : x ≡ y = cc in same)
later [] x y (suc i) h = absurd cc
later (z ∷ xs) x y zero h = inl h
later (z ∷ xs) x y (suc i) h = elim (later xs x y i h) [ inl e ↦ inl e | inr e ↦ inr (ap (λ n. suc n) e.0, e.1) ]

pub bodies_more : (ds : List Declared) (algorithms : List Algorithm) (bodies all : List (Option (List CompiledStmt))) (a : Algorithm) (o : Option (List CompiledStmt))
    → AreBodies ds algorithms bodies → all ≡ bodies ++ o ∷ [] → slice_get algorithms (length bodies) ≡ Some a → IfSome o (SaysAll ds (map stmt_of a.body.statements)) → AreBodies ds algorithms all
bodies_more ds algorithms bodies all a o are pushed here says i b codes at found =
    elim (later bodies o (Some codes) i (subst (λ (l : List (Option (List CompiledStmt))). slice_get l i ≡ Some (Some codes)) pushed found)) [
      | inl before ↦ are i b codes at before
      | inr now ↦
          let same : a ≡ b = let e : Some a ≡ Some b = sym here ∙ ap (slice_get algorithms) (sym now.0) ∙ at in cc in
          subst (λ (x : Algorithm). SaysAll ds (map stmt_of x.body.statements) codes) same (subst (λ (p : Option (List CompiledStmt)). IfSome p (SaysAll ds (map stmt_of a.body.statements))) now.1 says)
    ]

pub guards_more : (ds : List Declared) (transitions : List Transition) (guards all : List (Option TruthExpr)) (x : Transition) (o : Option TruthExpr)
    → AreGuards ds transitions guards → all ≡ guards ++ o ∷ [] → slice_get transitions (length guards) ≡ Some x → IfSome o (λ c. (e : Expr) → x.condition.guard ≡ Some e → SaysTruth ds (expr_of e) c)
    → AreGuards ds transitions all
guards_more ds transitions guards all x o are pushed here says i y e c at is found =
    elim (later guards o (Some c) i (subst (λ (l : List (Option TruthExpr)). slice_get l i ≡ Some (Some c)) pushed found)) [
      | inl before ↦ are i y e c at is before
      | inr now ↦
          let same : x ≡ y = let q : Some x ≡ Some y = sym here ∙ ap (slice_get transitions) (sym now.0) ∙ at in cc in
          (subst (λ (p : Option TruthExpr). IfSome p (λ d. (f : Expr) → x.condition.guard ≡ Some f → SaysTruth ds (expr_of f) d)) now.1 says) e (ap (λ (z : Transition). z.condition.guard) same ∙ is)
    ]

-- ---- The layout of a type

pub declared_names : (vs : List Variable) → map (λ d. d.0) (map declared_as vs) ≡ variable_names vs
declared_names [] = refl
declared_names (v ∷ vs) = ap (λ ns. v.name ∷ ns) (declared_names vs)

pub all_declared :
    (t : BasicType) (none first second third : List Declared) (ins outs internals : List Variable) → none ≡ []
    → ins ≡ t.ports.inputs → outs ≡ t.ports.outputs → internals ≡ t.internals
    → first ≡ none ++ map declared_as ins → second ≡ first ++ map declared_as outs → third ≡ second ++ map declared_as internals
    → third ≡ declared_by t
all_declared t none first second third ins outs internals begun is_ins is_outs is_internals one two three =
    let a : first ≡ map declared_as t.ports.inputs =
    one ∙ ap (λ (l : List Declared). l ++ map declared_as ins) begun ∙ ap (map declared_as) is_ins in
    let b : second ≡ map declared_as (t.ports.inputs ++ t.ports.outputs) =
    two ∙ ap (λ (l : List Declared). l ++ map declared_as outs) a
    ∙ ap (λ (l : List Variable). map declared_as t.ports.inputs ++ map declared_as l) is_outs ∙ sym (map-append declared_as t.ports.inputs t.ports.outputs) in
    three ∙ ap (λ (l : List Declared). l ++ map declared_as internals) b
    ∙ ap (λ (l : List Variable). map declared_as (t.ports.inputs ++ t.ports.outputs) ++ map declared_as l) is_internals
    ∙ sym (map-append declared_as (t.ports.inputs ++ t.ports.outputs) t.internals)
