-- The site at which the reaction of a copy stops.
use Rattle.fb_types.proofs.Common.{◌≡◌, ℕ, ◌<◌, List, length, Option, Some, None, sym, ap, subst, ◌∙◌, slice_get, same_Some, slice_get_within, Basic, Inputs, system_of, path_at}
use Rattle.fb_types.specs.declared.library.BasicType.{BasicType}
use Rattle.fb_types.specs.declared.run.Line.{Line}
use Rattle.fb_types.specs.declared.run.Target.{Target}
use Rattle.fb_ecc.specs.declared.state.BasicState.{BasicState}
use Rattle.fb_stop.specs.Copies.{HasLocated, IsLocated, Stopping}
use Rattle.fb_stop.specs.declared.found.EventSite.{EventSite}
use Rattle.fb_stop.specs.declared.found.EventSite.TheVariants.{Port as AtPort}
use Rattle.fb_stop.specs.declared.site.ReactionStop.{ReactionStop}
use Rattle.fb_stop.proofs.lemmas.copies.Copying.{first_of}

same_port : (t u : Target) → AtPort t ≡ AtPort u → t ≡ u
same_port t u e = cc

module _ (i : Inputs) (at : EventSite) (left : ℕ) (lines : List Line) (copies : List (Option BasicState)) (h : Stopping i at left lines copies) (t : Target) (port : at ≡ AtPort t) where
  target_is : h.target ≡ t
  target_is = same_port h.target t (sym h.port ∙ port)

  kind_is : (system_of i).kind (path_at (system_of i) t.instance) ≡ Some (Basic h.block)
  kind_is = subst (λ (u : Target). (system_of i).kind (path_at (system_of i) u.instance) ≡ Some (Basic h.block)) target_is h.here.kind

  copy_is : slice_get copies t.instance ≡ Some h.here.copy
  copy_is = subst (λ (u : Target). slice_get copies u.instance ≡ Some h.here.copy) target_is h.here.at

  pub copy_within : t.instance < length copies
  copy_within = slice_get_within copies t.instance h.here.copy copy_is

  module _ (block : BasicType) (kind : (system_of i).kind (path_at (system_of i) t.instance) ≡ Some (Basic block)) where
    block_is : h.block ≡ block
    block_is = let e : Some (Basic h.block) ≡ Some (Basic block) = sym kind_is ∙ kind in cc

    module _ (copy : Option BasicState) (there : slice_get copies t.instance ≡ Some copy) where
      same_copy : h.here.copy ≡ copy
      same_copy = same_Some h.here.copy copy (sym copy_is ∙ there)

      module _ (line : Line) (first : slice_get lines 0 ≡ Some line) where
        line_is : h.line ≡ line
        line_is = same_Some h.line line (sym (ap (λ (l : List Line). slice_get l 0) h.lines_are) ∙ first)

        -- what was located, in the terms of the stop that is known
        again : (stop : Option ReactionStop) → HasLocated block t.event line.values left copy stop → HasLocated h.block h.target.event h.line.values left h.here.copy stop
        again stop x =
            subst (λ (b : BasicType). HasLocated b h.target.event h.line.values left h.here.copy stop) (sym block_is)
            (subst (λ (u : Target). HasLocated block u.event h.line.values left h.here.copy stop) (sym target_is)
            (subst (λ (l : Line). HasLocated block t.event l.values left h.here.copy stop) (sym line_is)
            (subst (λ (c : Option BasicState). HasLocated block t.event line.values left c stop) (sym same_copy) x)))

        pub never_none : HasLocated block t.event line.values left copy None → ⊥
        never_none x = let y = again None x in h.never_rests y.state y.position y.is y.reacted

        pub located : (x : ReactionStop) → HasLocated block t.event line.values left copy (Some x) → IsLocated i at left lines copies x.site
        located x is = record {
          target = t;
          port = port;
          block = block;
          here = record { kind = kind; copy = copy; at = there };
          line = line;
          rest = (first_of lines line first).0;
          lines_are = (first_of lines line first).1;
          reason = x.reason;
          located = is;
        }
