use Rattle.fb_st.proofs.lemmas.Common.{◌≡◌, ℤ, List, Option, drop, length, map, sym, ◌∙◌, ap, subst, IfSome, Name, Twice, Stmts, Point, RunsAll, Running, end_of, point, Declared, declared_in, types_in, codes_said, spot, SaysAll, CompiledStmt, Kept, Slot}
use Rattle.std.specs.Borrow.{Bor}
use Rattle.fb_types.specs.Syntax.{stmts}
use Rattle.fb_st.specs.Kept.{kept_as}
use Rattle.fb_st.specs.Fitting.{held}
use Rattle.fb_st.proofs.lemmas.KeptAs.{plain_after, plain_layout, ran_there, written_back}
use Rattle.fb_st.proofs.lemmas.Slots.{names_declared}
use Rattle.fb_st.proofs.algorithm.exec_compiled.Goals as goal

-- the words are those of the variables of the layout
pub run_all-requires-clause-frame : goal.run_all-requires-clause-frame
run_all-requires-clause-frame c =
    let ds : List Declared = c.args.layout.now in
    let ks : List Kept = c.frame-inside.inside.0.0.kept.items in
    let zs : List ℤ = c.frame-inside.inside.0.0.words.items in
    let xs : List Slot = c.frame.inside.slots in
    let seen : kept_as ks zs ≡ xs = λ i. (c.frame-inside.view_is i).slots in
    let len = c.frame-inside.invariant.0 in
    let plain = c.frame-inside.invariant.1 c.if-not-frame.false in
    let laid = c.requires.layout ∙ ap declared_in (sym c.frame.view_is) in
    let known_so = plain_layout ds ks zs xs plain len seen laid in
    let P : List Name → Type 0 = λ ns. ¬ (Twice ns) in
    record {
      fit = ap (λ (l : List ℤ). length l) c.as_mut_slice-words.ensures.value ∙ known_so.1;
      once = subst P (sym (names_declared xs) ∙ ap (map (λ d. d.0)) (sym laid)) c.frame.invariant;
    }

pub run_all-requires-clause-right : goal.run_all-requires-clause-right
run_all-requires-clause-right c =
    let Says : Option (Bor (List CompiledStmt)) → Type 0 = λ o. IfSome o (λ codes. SaysAll c.args.layout.now c.requires.says.0 codes.now) in
    let says = subst Says c.in-Some.is c.requires.says.1 in
    says.right

-- the words that are written back are as many, and their variables have the same names
pub invariant_of-frame-inside : goal.invariant_of-frame-inside
invariant_of-frame-inside c =
    let zs : List ℤ = c.frame-inside.inside.0.0.words.items in
    let ys : List ℤ = c.run_all.new.words in
    let value = c.as_mut_slice-words.ensures.value in
    let same : length ys ≡ length zs = c.run_all.ensures.kept.same_length ∙ ap (λ (l : List ℤ). length l) value in
    let is = written_back ys (drop (length ys) zs) c.frame-inside.inside.0.0.words.len (same ∙ sym c.frame-inside.inside.0.0.words.ok.0) in
    rw is (same ∙ c.frame-inside.invariant.0, c.frame-inside.invariant.1)

pub invariant_of-frame : goal.invariant_of-frame
invariant_of-frame c =
    let ds : List Declared = c.args.layout.now in
    let ks : List Kept = c.frame-inside.inside.0.0.kept.items in
    let zs : List ℤ = c.frame-inside.inside.0.0.words.items in
    let xs : List Slot = c.frame.inside.slots in
    let seen : kept_as ks zs ≡ xs = λ i. (c.frame-inside.view_is i).slots in
    let len = c.frame-inside.invariant.0 in
    let plain = c.frame-inside.invariant.1 c.if-not-frame.false in
    let laid = c.requires.layout ∙ ap declared_in (sym c.frame.view_is) in
    let ys : List ℤ = c.run_all.new.words in
    let value = c.as_mut_slice-words.ensures.value in
    let same : length ys ≡ length zs = c.run_all.ensures.kept.same_length ∙ ap (λ (l : List ℤ). length l) value in
    let is = written_back ys (drop (length ys) zs) c.frame-inside.inside.0.0.words.len (same ∙ sym c.frame-inside.inside.0.0.words.ok.0) in
    let after = plain_after ds ks zs ys plain len same (laid ∙ ap declared_in (sym seen)) in
    let P : List Name → Type 0 = λ ns. ¬ (Twice ns) in
    rw is
    (subst P (sym (names_declared xs) ∙ ap (map (λ d. d.0)) (sym (after.1 ∙ ap declared_in seen)) ∙ names_declared (kept_as ks ys)) c.frame.invariant)

pub returns-clause-run : goal.returns-clause-run
returns-clause-run c = λ text given.
    let ds : List Declared = c.args.layout.now in
    let ks : List Kept = c.frame-inside.inside.0.0.kept.items in
    let zs : List ℤ = c.frame-inside.inside.0.0.words.items in
    let xs : List Slot = c.frame.inside.slots in
    let seen : kept_as ks zs ≡ xs = λ i. (c.frame-inside.view_is i).slots in
    let len = c.frame-inside.invariant.0 in
    let plain = c.frame-inside.invariant.1 c.if-not-frame.false in
    let laid = c.requires.layout ∙ ap declared_in (sym c.frame.view_is) in
    let ys : List ℤ = c.run_all.new.words in
    let value = c.as_mut_slice-words.ensures.value in
    let same : length ys ≡ length zs = c.run_all.ensures.kept.same_length ∙ ap (λ (l : List ℤ). length l) value in
    let is = written_back ys (drop (length ys) zs) c.frame-inside.inside.0.0.words.len (same ∙ sym c.frame-inside.inside.0.0.words.ok.0) in
    let after = plain_after ds ks zs ys plain len same (laid ∙ ap declared_in (sym seen)) in
    let known_so = plain_layout ds ks zs xs plain len seen laid in
    let Says : Option (Bor (List CompiledStmt)) → Type 0 = λ o. IfSome o (λ codes. SaysAll ds text codes.now) in
    let says = subst Says c.in-Some.is given in
    let e = end_of c.run_all.result in
    let q : Point = point (kept_as ks ys) c.run_all.new.meter in
    let R : Running = RunsAll (types_in ds) (codes_said ds c.in-Some.codes.now) in
    let Starts : List ℤ → Type 0 = λ l. R (spot ds l c.args.meter.now) e (spot ds ys c.run_all.new.meter) in
    let ran = ran_there R (held ds zs) xs (held ds ys) (kept_as ks ys) c.args.meter.now c.run_all.new.meter e known_so.0 after.0 (subst Starts value c.run_all.ensures.run) in
    let p : Point = point c.args.frame.now c.args.meter.now in
    let Held : List Slot → Type 0 = λ l. R (point l c.args.meter.now) e q in
    let Laid : List Declared → Type 0 = λ l. RunsAll (types_in l) (codes_said ds c.in-Some.codes.now) p e q in
    let Said : Stmts → Type 0 = λ b. RunsAll (types_in (declared_in c.args.frame.now)) b p e q in
    rw is (subst Said (ap stmts says.says) (subst Laid c.requires.layout (subst Held c.frame.view_is ran)))

pub returns-clause-declared : goal.returns-clause-declared
returns-clause-declared c =
    let ds : List Declared = c.args.layout.now in
    let ks : List Kept = c.frame-inside.inside.0.0.kept.items in
    let zs : List ℤ = c.frame-inside.inside.0.0.words.items in
    let xs : List Slot = c.frame.inside.slots in
    let seen : kept_as ks zs ≡ xs = λ i. (c.frame-inside.view_is i).slots in
    let len = c.frame-inside.invariant.0 in
    let plain = c.frame-inside.invariant.1 c.if-not-frame.false in
    let laid = c.requires.layout ∙ ap declared_in (sym c.frame.view_is) in
    let ys : List ℤ = c.run_all.new.words in
    let value = c.as_mut_slice-words.ensures.value in
    let same : length ys ≡ length zs = c.run_all.ensures.kept.same_length ∙ ap (λ (l : List ℤ). length l) value in
    let is = written_back ys (drop (length ys) zs) c.frame-inside.inside.0.0.words.len (same ∙ sym c.frame-inside.inside.0.0.words.ok.0) in
    let after = plain_after ds ks zs ys plain len same (laid ∙ ap declared_in (sym seen)) in
    rw is (after.1 ∙ ap declared_in seen ∙ ap declared_in c.frame.view_is)
