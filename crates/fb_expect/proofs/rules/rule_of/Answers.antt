use Rattle.fb_expect.proofs.lemmas.Common.{◌≡◌, refl, sym, ◌∙◌, Option, Some, option_map, text_of, Text, Pattern, Need, Pairing}
use Rattle.fb_expect.specs.Drafts.{RuleText}
use Rattle.fb_expect.specs.Lists.{may}
use Rattle.fb_expect.specs.Needs.{names_in, need_of, pairing_of, rule_of, with_names}
use Rattle.fb_expect.specs.Written.{pattern_of}
use Rattle.fb_expect.proofs.rules.rule_of.Goals as goal

made : (t : RuleText) (name : Text) (n : Need) (p p' : Pattern) (q q' r : Option Pattern) (g : Option Pairing) → name ≡ t.name → need_of t.need ≡ Some n
    → pattern_of t.first ≡ Some p → may pattern_of t.second ≡ Some q → may pattern_of t.third ≡ Some r → pairing_of t ≡ Some g → p' ≡ with_names (names_in g) p
    → q' ≡ option_map (with_names (names_in g)) q
    → Some (record { name = name; need = n; first = p'; second = q'; third = r; pairing = g }) ≡ rule_of t
unfolding rule_of
made t name n p p' q q' r g is-name is-need is-first is-second is-third is-pairing with-first with-second =
    rw (is-name, is-need, is-first, is-second, is-third, is-pairing, with-first, with-second) refl

pub returns : goal.returns
returns c =
    made (text_of c.args.draft.now) _ _ _ _ _ _ _ _ (c.in_ok-from_slice.ensures ∙ c.as_bytes.ensures.value) (sym c.need_of.ensures ∙ c.in-Some.is) (sym c.in_ok-first.ensures ∙ c.in-Some-2.is)
    (sym c.in_ok-second.ensures ∙ c.in-Some-3.is) (sym c.in_ok-third.ensures ∙ c.in-Some-4.is) (sym c.in_ok-pairing.ensures ∙ c.in-Some-5.is) c.in_ok-with_names.ensures
    c.in_ok-may_with_names.ensures
