-- The rows that a system keeps: how contracts see them, and what a system is made of.
use Rattle.fb_system.proofs.lemmas.Common.{◌≡◌, refl, sym, ◌∙◌, ap, subst, Inputs, system_of, IsSourceRowAt, IsPortRowAt, IsRowAt, inputs_of, AreTables, Whole}
use Rattle.fb_system.specs.Ends.{AreSources}
use Rattle.fb_system.specs.PortRows.{ArePortRows}
use Rattle.fb_system.specs.Heads.{AreHeads}
use Rattle.fb_system.specs.Systems.{HaveRows, IsBare, IsKept}
use Rattle.fb_system.specs.declared.kept.Kept.{Kept}
use Rattle.fb_system.proofs.lemmas.rows.InRanges.{none_in_ranges}

-- ---- The rows of the inputs that a system represents

pub rows_kept : (h : Kept) (v w : Whole) (i : Inputs) → h ≡ v.kept → v ≡ w → inputs_of w ≡ i → HaveRows w → IsKept i h
rows_kept h v w i e f s is =
    subst (λ (i : Inputs). IsKept i h) s
    (subst (λ (h : Kept). IsKept (inputs_of w) h) (sym (e ∙ ap (λ (w : Whole). w.kept) f)) (record { heads = is.heads; ports = is.ports; sources = is.sources }))

pub heads_seen : (v w : Whole) (i : Inputs) → v ≡ w → inputs_of w ≡ i → HaveRows w → AreHeads (system_of i) v.kept.heads
heads_seen v w i e s is = (rows_kept v.kept v w i refl e s is).heads

pub ports_seen : (v w : Whole) (i : Inputs) → v ≡ w → inputs_of w ≡ i → HaveRows w → ArePortRows i v.kept.ends
ports_seen v w i e s is = (rows_kept v.kept v w i refl e s is).ports

pub sources_seen : (v w : Whole) (i : Inputs) → v ≡ w → inputs_of w ≡ i → HaveRows w → AreSources (system_of i) v.kept.ends
sources_seen v w i e s is = (rows_kept v.kept v w i refl e s is).sources

-- ---- Making

-- Tables with these rows represent what they represented, with rows of the inputs that they represented.
pub with_rows : (u v w : Whole) (h : Kept) (i : Inputs) → u ≡ record v { kept = h } → v ≡ w → inputs_of w ≡ i → AreTables w → IsKept i h → HaveRows u
with_rows u v w h i e f s is rows =
    subst (λ (x : Whole). HaveRows x) (sym (e ∙ ap (λ (w : Whole). record w { kept = h }) f))
    (let all : IsKept (inputs_of w) h = subst (λ (i : Inputs). IsKept i h) (sym s) rows in
    record {
      tables = record { accepted = is.accepted; links = is.links; event_blocks = is.event_blocks; interfaces = is.interfaces; rows = is.rows; instance_resources = is.instance_resources };
      heads = all.heads;
      ports = all.ports;
      sources = all.sources;
    })

-- a system without rows
pub without_rows : (v w : Whole) → v ≡ w → IsBare w.kept → AreTables w → HaveRows v
without_rows v w e bare is =
    let i = inputs_of w in
    let sys = system_of i in
    subst (λ (x : Whole). HaveRows x) (sym e)
    (record {
      tables = is;
      heads = none_in_ranges (IsRowAt sys) w.kept.heads.rows w.kept.heads.ranges bare.heads;
      ports = none_in_ranges (IsPortRowAt i) w.kept.ends.ports w.kept.ends.port_ranges bare.ports;
      sources = none_in_ranges (IsSourceRowAt sys) w.kept.ends.sources w.kept.ends.source_ranges bare.sources;
    })
