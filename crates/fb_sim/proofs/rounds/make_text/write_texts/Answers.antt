use Rattle.fb_sim.proofs.lemmas.Common.{◌≡◌, ◌+◌, ◌++◌, ℕ, List, Option, length, take, drop, ap, sym, ◌∙◌, subst, arith, Appends, Appends-nil, Appends-trans, bounded, WritesPartOf, after_bytes, all_bytes, RunError, Refused, Memory, Write, BadOption, Failed}
use Rattle.fb_sim.proofs.lemmas.text.Texts.{all_bytes-more, all_bytes-parts, bounded-length, part-after, part-before}
use Rattle.fb_sim.proofs.rounds.make_text.write_texts.Goals as goal

-- a writer that failed in the second of three texts
part_within : (old mid new : Option (List ℕ)) (x y z : List ℕ) (n : ℕ) → Appends old mid x → n ≡ bounded (length x) → (e : RunError) → WritesPartOf mid new y e
    → WritesPartOf old new ((x ++ y) ++ z) (after_bytes n e)
part_within old mid new x y z n got counted (Write m) part = part-before z (part-after x got counted part)
part_within old mid new x y z n got counted (Refused r) bad = absurd bad
part_within old mid new x y z n got counted Memory bad = absurd bad
part_within old mid new x y z n got counted BadOption bad = absurd bad
part_within old mid new x y z n got counted Failed bad = absurd bad

pub loop-text-init : goal.loop-text-init
loop-text-init g c = record { got = Appends-nil _; counted = omega arith }

pub loop-text-preserved : goal.loop-text-preserved
loop-text-preserved g c =
    let vs = c.args.texts.now in
    let i = c.loop-text.text-index in
    let done = all_bytes (take i vs) in
    let old = g.W.Write.contents c.args.out.now in
    let mid = g.W.Write.contents c.loop-text.out in
    let new = g.W.Write.contents c.write_text.new.out in
    let more : all_bytes (take (i + 1) vs) ≡ done ++ c.text-item.result.items = all_bytes-more vs i c.text-item.result c.loop-text-test.true c.text-item.is in
    let whole = c.in-Ok.ensures.whole in
    let got : Appends mid new c.text-item.result.items = subst (λ (t : List ℕ). Appends mid new t) c.as_slice.ensures.value whole.0 in
    let here : c.in-Ok.count ≡ bounded (length c.text-item.result.items) = whole.1 ∙ ap (λ (t : List ℕ). bounded (length t)) c.as_slice.ensures.value in
    let before : c.loop-text.written ≡ bounded (length done) = c.loop-text.invariant.counted in
    let sum : bounded (bounded (length done) + bounded (length c.text-item.result.items)) ≡ bounded (length (all_bytes (take (i + 1) vs))) = bounded-length done c.text-item.result.items ∙ ap (λ (t : List ℕ). bounded (length t)) (sym more) in
    record {
      got = subst (λ (t : List ℕ). Appends old new t) (sym more) (Appends-trans old mid new done c.text-item.result.items c.loop-text.invariant.got got);
      counted = omega (arith, here, before, sum);
    }

pub returns-in-Err-clause-part : goal.returns-in-Err-clause-part
returns-in-Err-clause-part g c =
    let vs = c.args.texts.now in
    let i = c.loop-text.text-index in
    let done = all_bytes (take i vs) in
    let rest = all_bytes (drop (i + 1) vs) in
    let old = g.W.Write.contents c.args.out.now in
    let mid = g.W.Write.contents c.loop-text.out in
    let new = g.W.Write.contents c.write_text.new.out in
    let whole : (done ++ c.text-item.result.items) ++ rest ≡ all_bytes vs =
    ap (λ (z : List ℕ). z ++ rest) (sym (all_bytes-more vs i c.text-item.result c.loop-text-test.true c.text-item.is)) ∙ all_bytes-parts (i + 1) vs in
    let part : WritesPartOf mid new c.text-item.result.items c.in-Err.error = subst (λ (t : List ℕ). WritesPartOf mid new t c.in-Err.error) c.as_slice.ensures.value c.in-Err.ensures.part in
    rw c.with_written.ensures
    (subst (λ (t : List ℕ). WritesPartOf old new t (after_bytes c.loop-text.written c.in-Err.error)) whole
    (part_within old mid new done c.text-item.result.items rest c.loop-text.written c.loop-text.invariant.got c.loop-text.invariant.counted c.in-Err.error part))
