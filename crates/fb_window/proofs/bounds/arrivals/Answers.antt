use Rattle.fb_window.proofs.lemmas.Common.{◌≡◌, ◌+◌, ◌<◌, ℕ, List, min, length, set, Some, slice_get, slice_index, refl, sym, ap, subst, ◌∙◌, arith, length-set, slice_get_read, system_of, count_of, System, IsSound, IsCut}
use Rattle.fb_laws.proofs.lemmas.soundness.Accepting.{sound_of}
use Rattle.fb_link.specs.Arrivals.{IsEarliest}
use Rattle.fb_laws.specs.Cuts.{LinkAllows}
use Rattle.fb_window.proofs.lemmas.bounds.Bounding.{AreCut, cuts_first, cuts_here, cuts_past}
use Rattle.fb_window.proofs.lemmas.messages.LinkLemmas.{inside}
use Rattle.fb_window.proofs.lemmas.phases.Passes.{clock_of, stop_of, Rests}
use Rattle.fb_window.proofs.bounds.arrivals.Goals as goal
use Rattle.fb_window.proofs.bounds.arrivals.Goals.{then-floor-top, else-floor-top}

pub loop-link-init : goal.loop-link-init
loop-link-init c =
    record { long = refl; cut = λ r b. cuts_first clock_of stop_of Rests (system_of c.args.system.now) c.args.resources.now c.args.least c.args.top 256 r b }

pub offset_bounds-resources-link : goal.offset_bounds-resources-link
offset_bounds-resources-link c =
    let at = slice_get_read c.rows-link-items.result.now _ c.loop-link.link-index c.link-item.result refl c.loop-link-test.true c.link-item.is in
    let it = inside c.args.system.now c.rows-link-items.result.now c.rows-link-items.ensures c.loop-link.link-index c.link-item.result at in
    omega (arith, it.from, it.few)

pub bounds-resources-link : goal.bounds-resources-link
bounds-resources-link c =
    let at = slice_get_read c.rows-link-items.result.now _ c.loop-link.link-index c.link-item.result refl c.loop-link-test.true c.link-item.is in
    let it = inside c.args.system.now c.rows-link-items.result.now c.rows-link-items.ensures c.loop-link.link-index c.link-item.result at in
    omega (arith, it.from, c.requires.counted)

pub offset_bounds-all-link : goal.offset_bounds-all-link
offset_bounds-all-link c =
    let at = slice_get_read c.rows-link-items.result.now _ c.loop-link.link-index c.link-item.result refl c.loop-link-test.true c.link-item.is in
    let it = inside c.args.system.now c.rows-link-items.result.now c.rows-link-items.ensures c.loop-link.link-index c.link-item.result at in
    omega (arith, it.to, it.few)

pub bounds-all-link : goal.bounds-all-link
bounds-all-link c =
    let at = slice_get_read c.rows-link-items.result.now _ c.loop-link.link-index c.link-item.result refl c.loop-link-test.true c.link-item.is in
    let it = inside c.args.system.now c.rows-link-items.result.now c.rows-link-items.ensures c.loop-link.link-index c.link-item.result at in
    omega (arith, it.to, it.few)

pub offset_bounds-all-link-then-floor-top : goal.offset_bounds-all-link-then-floor-top
offset_bounds-all-link-then-floor-top c =
    let at = slice_get_read c.rows-link-items.result.now _ c.loop-link.link-index c.link-item.result refl c.loop-link-test.true c.link-item.is in
    let it = inside c.args.system.now c.rows-link-items.result.now c.rows-link-items.ensures c.loop-link.link-index c.link-item.result at in
    omega (arith, it.to, it.few)

pub bounds-all-link-then-floor-top : goal.bounds-all-link-then-floor-top
bounds-all-link-then-floor-top c =
    let at = slice_get_read c.rows-link-items.result.now _ c.loop-link.link-index c.link-item.result refl c.loop-link-test.true c.link-item.is in
    let it = inside c.args.system.now c.rows-link-items.result.now c.rows-link-items.ensures c.loop-link.link-index c.link-item.result at in
    omega (arith, it.to, it.few)

pub loop-link-preserved : goal.loop-link-preserved
loop-link-preserved c =
    let i = c.args.system.now in
    let sys : System = system_of i in
    let xs = c.args.resources.now in
    let row = c.link-item.result in
    let l = c.loop-link.link-index in
    let all = c.loop-link.all in
    let at = slice_get_read c.rows-link-items.result.now _ c.loop-link.link-index c.link-item.result refl c.loop-link-test.true c.link-item.is in
    let it = inside c.args.system.now c.rows-link-items.result.now c.rows-link-items.ensures c.loop-link.link-index c.link-item.result at in
    let sound : IsSound sys = sound_of i c.rows-link-items.ensures.good in
    let long : length all ≡ 256 = c.loop-link.invariant.long in
    let counted : length xs ≡ count_of sys = c.requires.counted in
    let inner : row.from < length xs = omega (arith, it.from, counted) in
    let to : row.to ≡ sys.receiver l = it.is.to in
    let receiver : sys.receiver l < length all = omega (arith, it.to, it.few, to, long) in
    let x = c.index-resources-link.result in
    let seat : slice_get xs (sys.sender l) ≡ Some x = subst (λ (s : ℕ). slice_get xs s ≡ Some x) it.is.from (slice_get_read xs _ row.from x refl inner c.index-resources-link.is) in
    elim c.if-floor-top.branch [
      | then-floor-top w ↦
          let here = cuts_here clock_of stop_of Rests sys xs c.args.least c.args.top l w.earliest.result all x row.latency c.loop-link.invariant.cut receiver seat it.is.arrival
          (subst (λ (f : ℕ). IsEarliest row.latency f w.earliest.result) c.floor-floor.ensures w.earliest.ensures.value) in
          let is : c.if-floor-top.all ≡ set all (sys.receiver l) (min (slice_index all (sys.receiver l)) w.earliest.result) =
          w.all-is ∙ ap (λ z. set all row.to z) w.min.ensures ∙ ap (λ q. set all q (min (slice_index all q) w.earliest.result)) to in
          record {
            long = ap length is ∙ length-set all (sys.receiver l) (min (slice_index all (sys.receiver l)) w.earliest.result) ∙ long;
            cut = subst (λ (ts : List ℕ). AreCut clock_of stop_of Rests sys xs c.args.least c.args.top (l + 1) ts) (sym is) here;
          }
      | else-floor-top w ↦
          let past = cuts_past clock_of stop_of Rests sys xs c.args.least c.args.top l all x c.loop-link.invariant.cut (λ sent. sound.later l sent it.below) seat
          (omega (arith, w.if-floor-top.false, c.floor-floor.ensures)) in
          record {
            long = ap length w.all-is ∙ long;
            cut = subst (λ (ts : List ℕ). AreCut clock_of stop_of Rests sys xs c.args.least c.args.top (l + 1) ts) (sym w.all-is) past;
          }
    ]

pub returns-clause-cut : goal.returns-clause-cut
returns-clause-cut c = λ r b.
    let end : c.loop-link.link-index ≡ (system_of c.args.system.now).links = omega (arith, c.loop-link-test.false, c.loop-link.auto.link-index-end, c.rows-link-items.ensures.all.counted) in
    subst (λ (n : ℕ). IsCut (LinkAllows clock_of stop_of (system_of c.args.system.now) c.args.resources.now c.args.least r) c.args.top n (slice_index c.loop-link.all r)) end
    (c.loop-link.invariant.cut r (omega (arith, c.loop-link.invariant.long, b)))
