use Rattle.fb_types.proofs.Common.{Bool, List, [], ◌∷◌, ◌++◌, ◌+◌, cond, drop, sym, ap, ◌∙◌, at_drop_all}
use Rattle.fb_types.specs.OfSystem.{path_at}
use Rattle.fb_types.specs.declared.library.EventPort.{EventPort}
use Rattle.fb_coverage.specs.Listed.{listed}
use Rattle.fb_coverage.specs.OfSystem.{is_in}
use Rattle.fb_coverage.specs.Shares.{flag_if, with_row}
use Rattle.fb_coverage.specs.Tables.{is_set}
use Rattle.fb_coverage.specs.declared.group.Group.TheVariants.{Connected}
use Rattle.fb_coverage.specs.declared.share.Share.{Share}
use Rattle.fb_coverage.proofs.lemmas.Counting.{row_then}
use Rattle.fb_coverage.proofs.lemmas.Listed.{listed_here}
use Rattle.fb_coverage.proofs.share.side_share.Goals as goal

pub loop-index-init : goal.loop-index-init
loop-index-init c =
    let flag = flag_if (is_in Connected c.args.system.now (path_at c.args.system.now c.args.instance)) c.args.flags.now in (
      ap (λ (s : Share). with_row s (listed flag 0 c.args.events.now)) c.new-share.ensures,
      ap (λ (s : Share). with_row s []) c.new-share.ensures ∙ sym c.new-share.ensures,
    )

pub loop-index-preserved-then-not-is_in : goal.loop-index-preserved-then-not-is_in
loop-index-preserved-then-not-is_in c =
    let flags = c.args.flags.now in
    let events = c.args.events.now in
    let flag = flag_if (is_in Connected c.args.system.now (path_at c.args.system.now c.args.instance)) flags in
    let i = c.loop-index.index in
    let x = c.index-events-index.result in
    let rest = listed flag (i + 1) (drop (i + 1) events) in
    let nothing = ap (λ (b : Bool). cond b (is_set flags i ∷ []) []) (sym c.is_in.ensures ∙ c.if-not-is_in.true) in (
      sym (ap (with_row c.loop-index.share) (listed_here flag events i x c.loop-index-test.true c.index-events-index.is ∙ ap (λ (l : List Bool). l ++ rest) nothing)) ∙ c.loop-index.invariant.0,
      c.loop-index.invariant.1,
    )

pub loop-index-preserved : goal.loop-index-preserved
loop-index-preserved c =
    let flags = c.args.flags.now in
    let events = c.args.events.now in
    let flag = flag_if (is_in Connected c.args.system.now (path_at c.args.system.now c.args.instance)) flags in
    let i = c.loop-index.index in
    let x = c.index-events-index.result in
    let s = c.loop-index.share in
    let rest = listed flag (i + 1) (drop (i + 1) events) in
    let counted = c.count_flag.ensures ∙ ap (λ (b : Bool). with_row s (b ∷ [])) c.is_set.ensures in
    let one = ap (λ (b : Bool). cond b (is_set flags i ∷ []) []) (sym c.is_in.ensures ∙ c.if-not-is_in.false) in (
      ap (λ (q : Share). with_row q rest) counted ∙ row_then s (is_set flags i ∷ []) rest
          ∙ sym (ap (with_row s) (listed_here flag events i x c.loop-index-test.true c.index-events-index.is ∙ ap (λ (l : List Bool). l ++ rest) one)) ∙ c.loop-index.invariant.0,
      ap (λ (q : Share). with_row q []) counted ∙ row_then s (is_set flags i ∷ []) [] ∙ sym counted,
    )

pub returns : goal.returns
returns c =
    let flag = flag_if (is_in Connected c.args.system.now (path_at c.args.system.now c.args.instance)) c.args.flags.now in
    let i = c.loop-index.index in
    sym c.loop-index.invariant.1 ∙ sym (ap (with_row c.loop-index.share) (at_drop_all (λ (ys : List EventPort). listed flag i ys) c.args.events.now i c.loop-index-test.false)) ∙ c.loop-index.invariant.0
