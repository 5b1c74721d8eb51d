use Rattle.fb_types.proofs.Common.{◌≡◌, Bool, List, [], Option, sym, ◌∙◌, ap, slice_set, true, unwrap_or}
use Rattle.std.specs.Option.{option_copied_mut}
use Rattle.fb_coverage.specs.Tables.{row_of}
use Rattle.fb_coverage.proofs.lemmas.Listed.{set_none}
use Rattle.fb_coverage.proofs.table.Table.set.Goals as goal

pub returns-in_default : goal.returns-in_default
returns-in_default c =
    let t = c.args.self.now in
    ap (λ (rows : List (List Bool)). record t { rows = rows })
    (sym (set_none t.rows c.args.row (slice_set (row_of t c.args.row) c.args.column true) (sym c.get_mut.ensures.value ∙ ap option_copied_mut c.in_default.is)))

pub returns-in-Some : goal.returns-in-Some
returns-in-Some c =
    let t = c.args.self.now in
    let row : c.in-Some.flags.now ≡ row_of t c.args.row = ap (λ (o : Option (List Bool)). unwrap_or o []) c.in-Some.ensures.value in
    ap (λ (flags : List Bool). record t { rows = slice_set t.rows c.args.row flags }) (c.set.ensures ∙ ap (λ (flags : List Bool). slice_set flags c.args.column true) row)
