-- Lines that were read up to one that is refused.
use Rattle.fb_inspect.proofs.lemmas.Common.{◌≡◌, ℕ, List, [], ◌∷◌, ◌++◌, map, Option, Some, None, Result, Ok, Err, refl, sym, ap, subst, ◌∙◌, append_assoc, append-nil, All, IfErr, take_through, Consumes, Consumes-trans, map-append, All-append, All-head, All-nil, All-tail, IfSome, Emission, emission_of, line_of, path_at, ports_at, System, lines_text, Form, Line, IsFirstLine, IsAlone, emission_line, EmitsGo, Goes, IsLineAt, StaysAlone, EmitsFail, IsWrongAt, IsWrongFor, OfRefusal, Refusal, Refuses, WalkError, Refused, InspectError, Finding, Reading, Trail}
use Rattle.fb_types.proofs.Common.{IsErrAnd}
use Rattle.std.proofs.KnownBytes.{Consumes-nil}
use Rattle.fb_types.specs.States as model
use Rattle.fb_types.specs.declared.run.Emission as run
use Rattle.fb_wave.proofs.lemmas.Handing.{on_passed}
use Rattle.fb_inspect.specs.Faults.{error_of_walk}
use Rattle.fb_inspect.specs.Refusals.{HasRead, IsNamesFault, IsNoRefusal, IsOther}
use Rattle.fb_inspect.specs.declared.error.InspectError.TheVariants as error
use Rattle.fb_inspect.specs.declared.refused.finding.Finding.TheVariants as why
use Rattle.fb_inspect.specs.declared.walk.error.WalkError.TheVariants.{Memory, Read, Write}
use Rattle.fb_inspect.proofs.lemmas.lines.Emitted.{emissions_are}
use Rattle.fb_inspect.proofs.lemmas.lines.Moving.{counted_then, lines-append, plus_none}

-- a line that was read ends before what is left
pub alone_first : (l m : Option (List ℕ)) (line : List ℕ) → Consumes l m line → IsFirstLine line l → (old : List ℕ) → IsAlone old l → IsAlone line m
alone_first None m line took first old alone = absurd alone
alone_first (Some x) None line took first old alone = absurd took
alone_first (Some x) (Some y) line took first old alone = first ∙ ap (take_through 10) took

-- ---- Errors

-- an error that is none of a line says anything of one
pub none_refused : (e : WalkError) (P : Refusal → Type 0) → IsNoRefusal e → Refuses P e
none_refused (Refused n) P none = absurd none
none_refused Memory P none = tt
none_refused Read P none = tt
none_refused (Write n) P none = tt

pub refused_then : (e : WalkError) (P Q : Refusal → Type 0) → Refuses P e → ((n : Refusal) → P n → Q n) → Refuses Q e
refused_then (Refused n) P Q h f = f n h
refused_then Memory P Q h f = tt
refused_then Read P Q h f = tt
refused_then (Write n) P Q h f = tt

pub err_refused : {A : Type 0} (r : Result A WalkError) (P Q : Refusal → Type 0) → IfErr r (Refuses P) → ((n : Refusal) → P n → Q n) → IfErr r (Refuses Q)
err_refused (Ok x) P Q h f = tt
err_refused (Err e) P Q h f = refused_then e P Q h f

pub err_none : {A : Type 0} (r : Result A WalkError) (P : Refusal → Type 0) → IfErr r IsNoRefusal → IfErr r (Refuses P)
err_none (Ok x) P h = tt
err_none (Err e) P h = none_refused e P h

-- two things that are said of a line that is refused
pub both_refused :
    {A : Type 0} (r : Result A WalkError) (P Q S : Refusal → Type 0) → IfErr r (Refuses P) → IfErr r (Refuses Q) → ((n : Refusal) → P n → Q n → S n) → IfErr r (Refuses S)
both_refused (Ok x) P Q S h k f = tt
both_refused (Err (Refused n)) P Q S h k f = f n h k
both_refused (Err Memory) P Q S h k f = tt
both_refused (Err Read) P Q S h k f = tt
both_refused (Err (Write n)) P Q S h k f = tt

-- an error that was passed on
pub err_passed :
    {A : Type 0} (r : Result A WalkError) (e : WalkError) (P Q : Refusal → Type 0) → IsErrAnd r (λ g. g ≡ e) → Refuses P e → ((n : Refusal) → P n → Q n) → IfErr r (Refuses Q)
err_passed r e P Q is h f = on_passed r e (Refuses Q) is (refused_then e P Q h f)

pub none_passed : {A : Type 0} (r : Result A WalkError) (e : WalkError) (Q : Refusal → Type 0) → IsErrAnd r (λ g. g ≡ e) → IsNoRefusal e → IfErr r (Refuses Q)
none_passed r e Q is none = on_passed r e (Refuses Q) is (none_refused e Q none)

-- what is said of an error of a walk is said of what is answered, with what was found
pub walk_found :
    (sys : System) (steps : ℕ) (input : Option (List ℕ)) (e : WalkError) (finding : Finding) (line : List ℕ) → Refuses (λ refusal. IfSome input (IsWrongFor sys steps refusal line)) e → Refuses (λ refusal. finding ≡ refusal.finding) e
    → OfRefusal (λ n. IfSome input (IsWrongFor sys steps (record { number = n; finding = finding }) line)) (error_of_walk e)
walk_found sys steps input (Refused refusal) finding line wrong is =
    subst (λ (f : Finding). IfSome input (IsWrongFor sys steps (record { number = refusal.number; finding = f }) line)) (sym is) wrong
walk_found sys steps input Memory finding line wrong is = tt
walk_found sys steps input Read finding line wrong is = tt
walk_found sys steps input (Write n) finding line wrong is = tt

-- the same of its number alone
pub walk_refused : (P : ℕ → Type 0) (e : WalkError) → Refuses (λ refusal. P refusal.number) e → OfRefusal P (error_of_walk e)
walk_refused P (Refused refusal) h = h
walk_refused P Memory h = tt
walk_refused P Read h = tt
walk_refused P (Write n) h = tt

some_wrong : (sys : System) (steps n : ℕ) (finding : Finding) (line : List ℕ) (input : Option (List ℕ)) → IfSome input (IsWrongFor sys steps (record { number = n; finding = finding }) line) → IfSome input (IsWrongAt sys steps n)
some_wrong sys steps n finding line None h = tt
some_wrong sys steps n finding line (Some text) h = (finding, line, h)

-- a line that is wrong for what was found is wrong
pub found_wrong :
    (sys : System) (steps : ℕ) (input : Option (List ℕ)) (finding : Finding) (line : List ℕ) (e : InspectError) → OfRefusal (λ n. IfSome input (IsWrongFor sys steps (record { number = n; finding = finding }) line)) e
    → OfRefusal (λ n. IfSome input (IsWrongAt sys steps n)) e
found_wrong sys steps input finding line (error.Refused n) h = some_wrong sys steps n finding line input h
found_wrong sys steps input finding line error.Names h = tt
found_wrong sys steps input finding line error.Unknown h = tt
found_wrong sys steps input finding line error.Memory h = tt
found_wrong sys steps input finding line error.Read h = tt
found_wrong sys steps input finding line (error.Write n) h = tt

-- out of memory, no names are at fault
pub memory_names : (sys : System) → IsNamesFault sys error.Memory
memory_names sys same names = absurd (cc)

-- a walk does not find names or paths at fault
pub walk_names : (sys : System) (e : WalkError) → IsNamesFault sys (error_of_walk e)
walk_names sys (Refused n) same names = absurd (cc)
walk_names sys Memory same names = absurd (cc)
walk_names sys Read same names = absurd (cc)
walk_names sys (Write n) same names = absurd (cc)

pub walk_paths : (e : WalkError) → error_of_walk e ≡ error.Unknown → ⊥
walk_paths (Refused n) same = cc
walk_paths Memory same = cc
walk_paths Read same = cc
walk_paths (Write n) same = cc

-- ---- Lines

module _ (sys : System) (form : Form) (tick : ℕ) where
  -- no line was read
  pub reads_none : (old new : Reading) (l : Option (List ℕ)) → new.line.items ≡ old.line.items → new.number ≡ old.number → HasRead sys form tick [] old new l l
  reads_none old new l line number = record {
    each = All-nil (IsLineAt sys tick);
    taken = [];
    took = Consumes-nil l;
    read = append-nil old.line.items ∙ sym line;
    numbered = number ∙ plus_none old.number;
    alone = λ alone. subst (λ (t : List ℕ). IsAlone t l) (sym line) alone;
  }

  pub reads_of : (ls : List Line) (bytes : List ℕ) (old new : Trail) (l m : Option (List ℕ)) → Goes sys form tick ls bytes old new l m → StaysAlone old.reading new.reading l m → HasRead sys form tick ls old.reading new.reading l m
  reads_of ls bytes old new l m goes alone =
      record { each = goes.each; taken = goes.taken; took = goes.took; read = goes.read; numbered = goes.numbered; alone = alone }

  pub reads_then :
      (a b c : Reading) (ls ks : List Line) (l m n : Option (List ℕ)) → HasRead sys form tick ls a b l m → HasRead sys form tick ks b c m n
      → HasRead sys form tick (ls ++ ks) a c l n
  reads_then a b c ls ks l m n first second =
      let L : List ℕ = lines_text form sys (map (line_of sys) ls) in
      let K : List ℕ = lines_text form sys (map (line_of sys) ks) in
      record {
        each = All-append (IsLineAt sys tick) ls ks first.each second.each;
        taken = first.taken ++ second.taken;
        took = Consumes-trans l m n first.taken second.taken first.took second.took;
        read = sym (append_assoc a.line.items first.taken second.taken)
            ∙ ap (λ (x : List ℕ). x ++ second.taken) first.read
            ∙ append_assoc L b.line.items second.taken
            ∙ ap (λ (x : List ℕ). L ++ x) second.read
            ∙ sym (append_assoc L K c.line.items)
            ∙ ap (λ (x : List ℕ). x ++ c.line.items) (sym (ap (lines_text form sys) (map-append (line_of sys) ls ks) ∙ lines-append form sys (map (line_of sys) ls) (map (line_of sys) ks)));
        numbered = counted_then ls ks a.number b.number c.number first.numbered second.numbered;
        alone = λ alone. second.alone (first.alone alone);
      }

-- ---- Emissions

module _ (sys : System) (form : Form) (line : Line) where
  -- the first of the emissions is in another line than the next one
  pub emits_fail :
      (x : run.Emission) (old new : Reading) (l : Option (List ℕ)) (n : Refusal) → new.line.items ≡ old.line.items → new.number ≡ old.number
      → n ≡ record { number = old.number; finding = why.Emits line.instance x }
      → IsOther sys form old.line.items (emission_line (line_of sys line) (emission_of (ports_at sys (path_at sys line.instance)) x))
      → EmitsFail sys form line (emission_of (ports_at sys (path_at sys line.instance)) x ∷ []) old new l l n
  emits_fail x old new l n same counted is other = record {
    passed = [];
    next = emission_of (ports_at sys (path_at sys line.instance)) x;
    more = [];
    parts = refl;
    otherwise = record {
      lines = [];
      are = refl;
      reads = reads_none sys form line.key.tick old new l same counted;
      number_is = ap (λ (r : Refusal). r.number) is ∙ sym counted;
      emission = x;
      emission_is = refl;
      found = ap (λ (r : Refusal). r.finding) is;
      other = subst (λ (t : List ℕ). IsOther sys form t (emission_line (line_of sys line) (emission_of (ports_at sys (path_at sys line.instance)) x))) (sym same) other;
    };
  }

  -- more of them would come after it
  pub emits_more :
      (es more : List Emission) (old new : Reading) (l k : Option (List ℕ)) (n : Refusal) → EmitsFail sys form line es old new l k n
      → EmitsFail sys form line (es ++ more) old new l k n
  emits_more es more old new l k n fails = record {
    passed = fails.passed;
    next = fails.next;
    more = fails.more ++ more;
    parts = ap (λ (x : List Emission). x ++ more) fails.parts ∙ append_assoc fails.passed (fails.next ∷ fails.more) more;
    otherwise = fails.otherwise;
  }

  -- others were gone through before
  pub emits_after :
      (es fs : List Emission) (ls : List Line) (a b c : Reading) (l k j : Option (List ℕ)) (n : Refusal) → map (line_of sys) ls ≡ map (emission_line (line_of sys line)) es
      → HasRead sys form line.key.tick ls a b l k → EmitsFail sys form line fs b c k j n → EmitsFail sys form line (es ++ fs) a c l j n
  emits_after es fs ls a b c l k j n are reads fails =
      let last = fails.otherwise in
      record {
        passed = es ++ fails.passed;
        next = fails.next;
        more = fails.more;
        parts = ap (λ (x : List Emission). es ++ x) fails.parts ∙ sym (append_assoc es fails.passed (fails.next ∷ fails.more));
        otherwise = record {
          lines = ls ++ last.lines;
          are = map-append (line_of sys) ls last.lines
              ∙ ap (λ (ks : List model.Line). ks ++ map (line_of sys) last.lines) are
              ∙ ap (λ (ks : List model.Line). map (emission_line (line_of sys line)) es ++ ks) last.are
              ∙ sym (map-append (emission_line (line_of sys line)) es fails.passed);
          reads = reads_then sys form line.key.tick a b c ls last.lines l k j reads last.reads;
          number_is = last.number_is;
          emission = last.emission;
          emission_is = last.emission_is;
          found = last.found;
          other = last.other;
        };
      }

-- an element after others
pub fit_at : (P : run.Emission → Type 0) (es : List run.Emission) (e : run.Emission) (rest : List run.Emission) → All P (es ++ e ∷ rest) → P e
fit_at P [] e rest all = All-head P e rest all
fit_at P (x ∷ es) e rest all = fit_at P es e rest (All-tail P x (es ++ e ∷ rest) all)

-- of some emissions the first were gone through, and the next one fails
pub rest_fails :
    (sys : System) (form : Form) (line : Line) (all es : List run.Emission) (e : run.Emission) (rest : List run.Emission) (a b : Trail) (c : Reading) (l k j : Option (List ℕ)) (n : Refusal)
    → all ≡ es ++ e ∷ rest → EmitsGo sys form line es a b l k
    → EmitsFail sys form line (emission_of (ports_at sys (path_at sys line.instance)) e ∷ []) b.reading c k j n
    → EmitsFail sys form line (map (emission_of (ports_at sys (path_at sys line.instance))) all) a.reading c l j n
rest_fails sys form line all es e rest a b c l k j n parts went fails =
    let f = emission_of (ports_at sys (path_at sys line.instance)) in
    subst (λ (xs : List Emission). EmitsFail sys form line xs a.reading c l j n) (sym (ap (map f) parts ∙ map-append f es (e ∷ rest)))
    (emits_after sys form line (map f es) (f e ∷ map f rest) went.lines a.reading b.reading c l k j n
    (emissions_are sys (ports_at sys (path_at sys line.instance)) went.lines line es refl went.are)
    (reads_of sys form line.key.tick went.lines _ a b l k went.goes went.alone)
    (emits_more sys form line (f e ∷ []) (map f rest) b.reading c k j n fails))
