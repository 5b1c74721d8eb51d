use Rattle.fbsim_command.proofs.lemmas.Common.{ℕ, ◌<◌, ◌∙◌, ◌||◌, Bool, List, Option, ap, map, subst, sym, AllZip, Library, Given, naming_of}
use Rattle.fb_lint.specs.Positions.{position_of}
use Rattle.fb_read_positions.specs.Places.{IsPlaceFor}
use Rattle.fbsim_command.specs.WarningLines.{IsLinkPlaceFor, IsRowPlaceFor}
use Rattle.fbsim_command.proofs.lemmas.LeftOut.{sorted-all, sorted-left, sorted-next}
use Rattle.fbsim_command.proofs.lemmas.files.PlacedLines.{as_many_links, as_many_places, as_many_rows, link_at_index, place_at_index, row_at_index}
use Rattle.fbsim_command.proofs.warning_lines.all_lines.Goals.{else-not-is_left_out, then-not-is_left_out+in_ok-push_line}
use Rattle.fbsim_command.proofs.warning_lines.all_lines.Goals as goal

pub bounds-places-index : goal.bounds-places-index
bounds-places-index c =
    let library = c.library-library.result.now in
    let all : AllZip (IsPlaceFor c.args.inputs.now.declaration library) (map position_of c.args.warnings.now) c.as_slice-places.result.now =
    rw c.as_slice-places.ensures.value
    (subst (λ (d : List ℕ). AllZip (IsPlaceFor d library) (map position_of c.args.warnings.now) c.in_ok-places.places.items) (ap (λ (g : Given). g.declaration) c.inputs.view_is)
    (rw (c.as_slice.ensures.value, c.in_ok-positions.ensures) at c.in_ok-places.ensures)) in
    subst (λ (k : ℕ). c.loop-index.index < k)
    (sym (as_many_places (naming_of c.args.naming.now) c.args.inputs.now library c.args.warnings.now c.as_slice-places.result.now all)) c.loop-index-test.true

pub push_line-requires-clause-declared : goal.push_line-requires-clause-declared
push_line-requires-clause-declared c =
    let library = c.library-library.result.now in
    let all : AllZip (IsPlaceFor c.args.inputs.now.declaration library) (map position_of c.args.warnings.now) c.as_slice-places.result.now =
    rw c.as_slice-places.ensures.value
    (subst (λ (d : List ℕ). AllZip (IsPlaceFor d library) (map position_of c.args.warnings.now) c.in_ok-places.places.items) (ap (λ (g : Given). g.declaration) c.inputs.view_is)
    (rw (c.as_slice.ensures.value, c.in_ok-positions.ensures) at c.in_ok-places.ensures)) in
    place_at_index (naming_of c.args.naming.now) c.args.inputs.now library c.args.warnings.now c.as_slice-places.result.now c.loop-index.index _ _ all c.loop-index-test.true

pub bounds-rows-index : goal.bounds-rows-index
bounds-rows-index c =
    let stimuli = c.args.inputs.now.stimuli in
    let all : AllZip (IsRowPlaceFor stimuli) c.args.warnings.now c.as_slice-rows.result.now =
    rw c.as_slice-rows.ensures.value
    (subst (λ (t : Option (List ℕ)). AllZip (IsRowPlaceFor t) c.args.warnings.now c.in_ok-rows.rows.items) (ap (λ (g : Given). g.stimuli) c.inputs.view_is) c.in_ok-rows.ensures) in
    subst (λ (k : ℕ). c.loop-index.index < k) (sym (as_many_rows stimuli c.args.warnings.now c.as_slice-rows.result.now all)) c.loop-index-test.true

pub push_line-requires-clause-row : goal.push_line-requires-clause-row
push_line-requires-clause-row c =
    let stimuli = c.args.inputs.now.stimuli in
    let all : AllZip (IsRowPlaceFor stimuli) c.args.warnings.now c.as_slice-rows.result.now =
    rw c.as_slice-rows.ensures.value
    (subst (λ (t : Option (List ℕ)). AllZip (IsRowPlaceFor t) c.args.warnings.now c.in_ok-rows.rows.items) (ap (λ (g : Given). g.stimuli) c.inputs.view_is) c.in_ok-rows.ensures) in
    row_at_index stimuli c.args.warnings.now c.as_slice-rows.result.now c.loop-index.index _ _ all c.loop-index-test.true

pub bounds-links-index : goal.bounds-links-index
bounds-links-index c =
    let deploy = c.args.inputs.now.deploy in
    let all : AllZip (IsLinkPlaceFor deploy) c.args.warnings.now c.as_slice-links.result.now =
    rw c.as_slice-links.ensures.value
    (subst (λ (d : Option (List ℕ)). AllZip (IsLinkPlaceFor d) c.args.warnings.now c.in_ok-links.links.items) (ap (λ (g : Given). g.deploy) c.inputs.view_is) c.in_ok-links.ensures) in
    subst (λ (k : ℕ). c.loop-index.index < k) (sym (as_many_links deploy c.args.warnings.now c.as_slice-links.result.now all)) c.loop-index-test.true

pub push_line-requires-clause-link : goal.push_line-requires-clause-link
push_line-requires-clause-link c =
    let deploy = c.args.inputs.now.deploy in
    let all : AllZip (IsLinkPlaceFor deploy) c.args.warnings.now c.as_slice-links.result.now =
    rw c.as_slice-links.ensures.value
    (subst (λ (d : Option (List ℕ)). AllZip (IsLinkPlaceFor d) c.args.warnings.now c.in_ok-links.links.items) (ap (λ (g : Given). g.deploy) c.inputs.view_is) c.in_ok-links.ensures) in
    link_at_index deploy c.args.warnings.now c.as_slice-links.result.now c.loop-index.index _ _ all c.loop-index-test.true

pub loop-index-preserved : goal.loop-index-preserved
loop-index-preserved c =
    let library = c.args.system.now.library in
    let all : AllZip (IsPlaceFor c.args.inputs.now.declaration c.library-library.result.now) (map position_of c.args.warnings.now) c.as_slice-places.result.now =
    rw c.as_slice-places.ensures.value
    (subst (λ (d : List ℕ). AllZip (IsPlaceFor d c.library-library.result.now) (map position_of c.args.warnings.now) c.in_ok-places.places.items)
    (ap (λ (g : Given). g.declaration) c.inputs.view_is) (rw (c.as_slice.ensures.value, c.in_ok-positions.ensures) at c.in_ok-places.ensures)) in
    let placed = subst (λ (l : Library). AllZip (IsPlaceFor c.args.inputs.now.declaration l) (map position_of c.args.warnings.now) c.as_slice-places.result.now) c.library-library.ensures all in
    let there = place_at_index (naming_of c.args.naming.now) c.args.inputs.now library c.args.warnings.now c.as_slice-places.result.now c.loop-index.index _ _ placed c.loop-index-test.true in
    elim c.if-not-is_left_out.branch [
      | then-not-is_left_out+in_ok-push_line w ↦
          rw (w.lines-is, w.has_denied-is)
          (sorted-next (naming_of c.args.naming.now) c.args.inputs.now c.args.sorting.now library c.args.system.now.stimuli c.args.warnings.now c.loop-index.index _ _ c.loop-index.lines.items
          w.push_line.new.text.items c.loop-index.has_denied (c.loop-index.has_denied || w.is_denied-has_denied.result) c.library-library.result.now c.loop-index-test.true there
          (sym c.is_left_out.ensures ∙ w.if-not-is_left_out.true) c.library-library.ensures w.in_ok-push_line.ensures
          (ap (λ (b : Bool). c.loop-index.has_denied || b) w.is_denied-has_denied.ensures) c.loop-index.invariant)
      | else-not-is_left_out w ↦
          rw (w.lines-is, w.has_denied-is)
          (sorted-left (naming_of c.args.naming.now) c.args.inputs.now c.args.sorting.now library c.args.system.now.stimuli c.args.warnings.now c.loop-index.index _ _ c.loop-index.lines.items
          c.loop-index.has_denied c.loop-index-test.true there (sym c.is_left_out.ensures ∙ w.if-not-is_left_out.false) c.loop-index.invariant)
    ]

pub returns : goal.returns
returns c =
    sorted-all (naming_of c.args.naming.now) c.args.inputs.now c.args.sorting.now c.args.system.now.library c.args.system.now.stimuli c.args.warnings.now c.loop-index.index c.loop-index.lines.items
    c.loop-index.has_denied c.loop-index-test.false c.loop-index.invariant
