use Rattle.fb_types.proofs.Common.{◌≡◌, ◌+◌, ◌<◌, ◌≤◌, true, false, None, Some, slice_get, refl, sym, ap, subst, ◌∙◌, arith, ltb-true, ltb-false, same_Some, slice_get_read}
use Rattle.fb_types.specs.declared.run.StopMark.{StopMark}
use Rattle.fb_window.proofs.lemmas.lines.FoundLines.{FirstOf, first_live, first_new, first_kept, none_found}
use Rattle.fb_window.proofs.ends.first_stop.Goals as goal
use Rattle.fb_window.proofs.ends.first_stop.Goals.{in-Some+then-is_less, in-Some-first, in-None, in-Some+else-is_less, in_default}

pub loop-index-preserved : goal.loop-index-preserved
loop-index-preserved c =
    let xs = c.args.resources.now in
    let n = c.loop-index.index in
    let x = c.index-resources-index.result in
    let at : slice_get xs n ≡ Some x = slice_get_read xs _ n x refl c.loop-index-test.true c.index-resources-index.is in
    let found = c.loop-index.invariant.first_of in
    let placed = c.loop-index.invariant.placed in
    elim c.match-stopped.branch [
      | in-Some+then-is_less w ↦
          let mark : StopMark = record { tick = w.clock-tick.result; resource = n; reason = w.in-Some.reason } in
          let is : c.match-stopped.first ≡ Some mark = w.first-is in
          let less : (old : StopMark) → c.loop-index.first ≡ Some old → mark.tick < old.tick = λ old e.
          elim w.match-first.branch [
            | in-Some-first v ↦
                let same : v.in-Some-first.mark ≡ old = same_Some v.in-Some-first.mark old (sym v.in-Some-first.is ∙ e) in
                let low : w.clock-tick.result < v.in-Some-first.mark.tick = ltb-true w.clock-tick.result v.in-Some-first.mark.tick (sym v.is_less-is ∙ w.if-is_less.true) in
                let tick : v.in-Some-first.mark.tick ≡ old.tick = ap (λ (m : StopMark). m.tick) same in
                omega arith
            | in-None v ↦ let f : None ≡ Some old = sym v.in-None.is ∙ e in cc
          ] in
          record {
            first_of = subst (FirstOf xs (n + 1)) (sym is)
                (first_new xs n c.loop-index.first mark x at (sym c.stopped.ensures ∙ w.in-Some.is) (sym w.clock-tick.ensures) refl found less);
            placed = λ m e. let f : mark ≡ m = same_Some mark m (sym is ∙ e) in let g : n ≡ m.resource = ap (λ (z : StopMark). z.resource) f in omega arith;
          }
      | in-Some+else-is_less w ↦
          let is : c.match-stopped.first ≡ c.loop-index.first = w.first-is in
          elim w.match-first.branch [
            | in-Some-first v ↦
                let old = v.in-Some-first.mark in
                let e : c.loop-index.first ≡ Some old = v.in-Some-first.is in
                let low : old.tick ≤ w.clock-tick.result = ltb-false w.clock-tick.result old.tick (sym v.is_less-is ∙ w.if-is_less.false) in
                let clock = w.clock-tick.ensures in
                record {
                  first_of = subst (FirstOf xs (n + 1)) (sym (is ∙ e)) (first_kept xs n old x at (subst (FirstOf xs n) e found) (omega arith) (placed old e));
                  placed = λ m f. let g = placed m (sym is ∙ f) in omega arith;
                }
            | in-None v ↦ let f : true ≡ false = sym v.is_less-is ∙ w.if-is_less.false in cc
          ]
      | in_default w ↦
          let is : c.match-stopped.first ≡ c.loop-index.first = w.first-is in
          record {
            first_of = subst (FirstOf xs (n + 1)) (sym is) (first_live xs n c.loop-index.first x at (sym c.stopped.ensures ∙ w.in_default.is) found);
            placed = λ m f. let g = placed m (sym is ∙ f) in omega arith;
          }
    ]

pub returns-clause-none : goal.returns-clause-none
returns-clause-none c = none_found c.args.resources.now c.loop-index.index c.loop-index.first c.loop-index-test.false c.loop-index.invariant.first_of
