use Rattle.fb_types.proofs.Common.{arith, ◌≡◌, ◌∙◌, ◌<◌, ◌≤◌, ◌++◌, ℕ, List, length, take, drop, vec_len, ap, subst, sym, length-take, take-append-le, Consumes, Consumes-trans}
use Rattle.std.proofs.Common.{Vec, Global}
use Rattle.std.proofs.KnownBytes.{Consumes-kept, Consumes-nil}
use Rattle.fbsim_command.proofs.lemmas.files.FirstBytes.{front_ended, front_full}
use Rattle.fbsim_command.proofs.files.read_most.Goals.{in-Ok+in-Ok-extend_from_slice, in-Err}
use Rattle.fbsim_command.proofs.files.read_most.Goals as goal

pub loop-init : goal.loop-init
loop-init g c =
    let from = g.R.Read.remaining c.args.from.now in
    (omega (arith, c.new-bytes.ensures.len), subst (Consumes from from) (sym c.new-bytes.ensures.items) (Consumes-nil from))

pub loop-preserved : goal.loop-preserved
loop-preserved g c =
    let from = g.R.Read.remaining c.args.from.now in
    let mid = g.R.Read.remaining c.loop.from in
    let new = g.R.Read.remaining c.read.new.self in
    let read = c.loop.bytes.items in
    let so = λ (v : Vec ℕ Global). (vec_len v ≤ c.args.most) × Consumes from new v.items in
    elim c.match-read.branch [
      | in-Ok+in-Ok-extend_from_slice w ↦
          (let part = take w.in-Ok.count c.read.new.buf in
          let same : take w.in-Ok.count (c.read.new.buf ++ drop c.min-room.result c.loop.part) ≡ part = take-append-le _ _ _ w.in-Ok.ensures.bound.0 in
          let lens = ap length same in
          let all = w.in-Ok-extend_from_slice.ensures.items ∙ ap (λ (l : List ℕ). read ++ l) same in
          let short : vec_len w.extend_from_slice.new.self ≤ c.args.most = omega (arith, length-take c.min-room.result c.loop.part, lens, w.in-Ok.ensures.bound.0, w.in-Ok.ensures.bound.1, w.in-Ok-extend_from_slice.ensures.len) in
          subst so (sym w.bytes-is) (short, subst (Consumes from new) (sym all) (Consumes-trans from mid new read part c.loop.invariant.1 w.in-Ok.ensures.bytes.0)))
      | in-Err w ↦ subst so (sym w.bytes-is) (c.loop.invariant.0, Consumes-kept from mid new read c.loop.invariant.1 w.in-Err.ensures.bytes)
    ]

pub returns-then-room-eq0-clause-front : goal.returns-then-room-eq0-clause-front
returns-then-room-eq0-clause-front g c =
    let full : length c.loop.bytes.items ≡ c.args.most = omega arith in
    front_full _ _ c.loop.bytes.items c.args.most full c.loop.invariant.1

pub returns-in-Ok-eq0-clause-front : goal.returns-in-Ok-eq0-clause-front
returns-in-Ok-eq0-clause-front g c =
    let short : length c.loop.bytes.items ≤ c.args.most = omega arith in
    let none : c.in-Ok-eq0.field-0 ≡ 0 = omega arith in
    let some : 0 < length c.read.new.buf = omega (arith, length-take c.min-room.result c.loop.part) in
    front_ended _ _ _ c.loop.bytes.items c.read.new.buf c.args.most c.in-Ok-eq0.field-0 short c.loop.invariant.1 c.in-Ok-eq0.ensures-1.bytes none some
