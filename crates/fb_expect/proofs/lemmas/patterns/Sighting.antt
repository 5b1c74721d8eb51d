-- What a trace has of a pattern with one more line.
use Rattle.fb_expect.proofs.lemmas.Common.{◌≡◌, Bool, true, false, List, [], ◌∷◌, ◌++◌, refl, sym, ap, ap₂, ◌∙◌, ◌&&◌, ◌||◌, if◌then◌else◌, list_all, list_any, Event, is_at, Pattern}
use Rattle.fb_types.proofs.Common.{list_any-append}
use Rattle.fb_expect.specs.Patterns.{has_all, has_kind, has_kinds, is_named, meets}
use Rattle.fb_expect.specs.Sights.{nearest, sight_of}
use Rattle.fb_expect.specs.declared.sight.Sight.{Sight}
use Rattle.fb_expect.specs.declared.sight.Sight.TheVariants.{Nothing, Port, Named, Fitting, Met}

-- what is seen, where a line meets the pattern, has values of its kinds, has its variables, or is of its ports
abbrev pub seen : (a b c d : Bool) → Sight
seen a b c d = if a then Met else if b then Fitting else if c then Named else if d then Port else Nothing

any-more : (test : Event → Bool) (es : List Event) (e : Event) → list_any test (es ++ e ∷ []) ≡ (list_any test es || test e)
any-more test es e = list_any-append test es (e ∷ []) ∙ or-nil (list_any test es) (test e)
  where
    or-nil : (x y : Bool) → (x || (y || false)) ≡ (x || y)
    or-nil true y = refl
    or-nil false true = refl
    or-nil false false = refl

-- with one more line, each of the four is so for a line before or for this one
pub sight-more :
    (p : Pattern) (es : List Event) (e : Event)
    → sight_of p (es ++ e ∷ []) ≡ seen (list_any (meets p) es || meets p e) (list_any (has_kinds p) es || has_kinds p e) (list_any (has_all p) es || has_all p e) (list_any (is_at p) es || is_at p e)
sight-more p es e =
    let a = any-more (meets p) es e in
    let b = any-more (has_kinds p) es e in
    let c = any-more (has_all p) es e in
    let d = any-more (is_at p) es e in
    cc

and-off : (x y : Bool) → x ≡ false → (x && y) ≡ false
and-off true y a = absurd (let bad : true ≡ false = a in cc)
and-off false y a = refl

pub lacks-kinds : (p : Pattern) (e : Event) → is_at p e ≡ false → has_kinds p e ≡ false
unfolding has_kinds
lacks-kinds p e off = and-off (is_at p e) (list_all (λ c. has_kind c e.values) p.conditions) off

pub lacks-all : (p : Pattern) (e : Event) → is_at p e ≡ false → has_all p e ≡ false
unfolding has_all
lacks-all p e off = and-off (is_at p e) (list_all (λ c. is_named c e.values) p.conditions) off

-- ---- What is seen stays, or becomes more

-- a to d of the lines before, x to w of this one
pub met-stays : (a b c d x y z w : Bool) → Met ≡ seen a b c d → Met ≡ seen (a || x) (b || y) (c || z) (d || w)
met-stays true b c d x y z w same = refl
met-stays false true c d x y z w same = cc
met-stays false false true d x y z w same = cc
met-stays false false false true x y z w same = cc
met-stays false false false false x y z w same = cc

pub met-now : (a b c d x y z w : Bool) → x ≡ true → Met ≡ seen (a || x) (b || y) (c || z) (d || w)
met-now true b c d x y z w on = refl
met-now false b c d true y z w on = refl
met-now false b c d false y z w on = absurd (let bad : false ≡ true = on in cc)

pub fitting-stays : (a b c d x y z w : Bool) → Fitting ≡ seen a b c d → x ≡ false → Fitting ≡ seen (a || x) (b || y) (c || z) (d || w)
fitting-stays true b c d x y z w same off = cc
fitting-stays false true c d x y z w same off = ap (λ (o : Bool). seen o true (c || z) (d || w)) (sym off)
fitting-stays false false true d x y z w same off = cc
fitting-stays false false false true x y z w same off = cc
fitting-stays false false false false x y z w same off = cc

pub named-fits : (a b c d x y z w : Bool) → Named ≡ seen a b c d → x ≡ false → y ≡ true → Fitting ≡ seen (a || x) (b || y) (c || z) (d || w)
named-fits true b c d x y z w same off on = cc
named-fits false true c d x y z w same off on = cc
named-fits false false true d x y z w same off on = ap₂ (λ (o p : Bool). seen o p true (d || w)) (sym off) (sym on)
named-fits false false false true x y z w same off on = cc
named-fits false false false false x y z w same off on = cc

pub named-stays : (a b c d x y z w : Bool) → Named ≡ seen a b c d → x ≡ false → y ≡ false → Named ≡ seen (a || x) (b || y) (c || z) (d || w)
named-stays true b c d x y z w same off none = cc
named-stays false true c d x y z w same off none = cc
named-stays false false true d x y z w same off none = ap₂ (λ (o p : Bool). seen o p true (d || w)) (sym off) (sym none)
named-stays false false false true x y z w same off none = cc
named-stays false false false false x y z w same off none = cc

pub port-more : (s : Sight) (a b c d x y z w : Bool) → Port ≡ seen a b c d → x ≡ false → s ≡ nearest y z → s ≡ seen (a || x) (b || y) (c || z) (d || w)
port-more s true b c d x y z w same off is = cc
port-more s false true c d x y z w same off is = cc
port-more s false false true d x y z w same off is = cc
port-more s false false false true x y z w same off is = is ∙ ap (λ (o : Bool). seen o y z true) (sym off)
port-more s false false false false x y z w same off is = cc

pub nothing-at : (s : Sight) (a b c d x y z w : Bool) → Nothing ≡ seen a b c d → x ≡ false → w ≡ true → s ≡ nearest y z → s ≡ seen (a || x) (b || y) (c || z) (d || w)
nothing-at s true b c d x y z w same off at is = cc
nothing-at s false true c d x y z w same off at is = cc
nothing-at s false false true d x y z w same off at is = cc
nothing-at s false false false true x y z w same off at is = cc
nothing-at s false false false false x y z w same off at is = is ∙ ap₂ (λ (o p : Bool). seen o y z p) (sym off) (sym at)

pub nothing-stays :
    (a b c d x y z w : Bool) → Nothing ≡ seen a b c d → x ≡ false → y ≡ false → z ≡ false → w ≡ false → Nothing ≡ seen (a || x) (b || y) (c || z) (d || w)
nothing-stays true b c d x y z w same no-x no-y no-z no-w = cc
nothing-stays false true c d x y z w same no-x no-y no-z no-w = cc
nothing-stays false false true d x y z w same no-x no-y no-z no-w = cc
nothing-stays false false false true x y z w same no-x no-y no-z no-w = cc
nothing-stays false false false false x y z w same no-x no-y no-z no-w = let e = ap₂ (seen x y) no-z no-w in let f = ap₂ (λ (o p : Bool). seen o p false false) no-x no-y in sym (e ∙ f)
