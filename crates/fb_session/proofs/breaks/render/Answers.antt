use Rattle.fb_types.proofs.Common.{zero, suc, List, [], ◌∷◌, All, arith, subst, sym, system_of}
use Rattle.fb_types.specs.declared.run.Line.{Line}
use Rattle.fb_system.specs.Lines.{BelongsTo}
use Rattle.fb_session.proofs.breaks.render.Goals as goal

one : (P : Line → Type 0) (x : Line) → P x → All P (x ∷ [])
one P x p zero d within = p
one P x p (suc k) d within = absurd (omega (arith, within))

pub write_lines-requires : goal.write_lines-requires
write_lines-requires c =
    let P : Line → Type 0 = BelongsTo (system_of c.args.system.now) in
    subst (λ (ls : List Line). All P ls) (sym c.from_ref.ensures.value) (one P c.args.line.now c.requires)
