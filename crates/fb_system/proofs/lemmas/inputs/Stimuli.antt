-- The stimuli by number, for the inputs that a system represents.
use Rattle.fb_system.proofs.lemmas.Common.{◌≡◌, ℕ, ◌<◌, false, List, [], ◌∷◌, map, length, Option, Some, None, refl, sym, ◌∙◌, ap, subst, arith, option_map, slice_get, unwrap_or, length-map, same_Some, slice_get-map, slice_get_within, Name, Path, Kind, event_names, ports, ports_of, kind_at, paths_of, Inputs, system_of, path_at, ports_at, EventPort, Instance, Library, Ports, AreNumbers, path_of, inputs_of, AreTables, Whole}
use Rattle.fb_types.proofs.Common.{All, event_at, stimulus_of}
use Rattle.fb_types.specs.declared.deploy.Stimulus.{Stimulus}
use Rattle.fb_types.specs.declared.run.InputValue.{InputValue}
use Rattle.std.specs.Borrow.{Bor}
use Rattle.fb_system.specs.Rows.{AreRows, IsRow, set_at}
use Rattle.fb_system.specs.declared.rows.StimulusRow.{StimulusRow}
use Rattle.fb_system.specs.Stimuli.{IsRowOf, IsStimulusAt, set_of}
use Rattle.fb_types.proofs.lemmas.lists.ByIndex.{all_at, element_at}

-- ---- The rows

pub rows_seen : (v w : Whole) (i : Inputs) → AreTables w → v ≡ w → inputs_of w ≡ i → AreRows i.library i.stimuli v.rows
rows_seen v w i is e s =
    subst (λ (x : Whole). AreRows i.library i.stimuli x.rows) (sym e) (subst (λ (i : Inputs). AreRows i.library i.stimuli w.rows) s is.rows)

pub row_within : (v w : Whole) (i : Inputs) (k : ℕ) → AreTables w → v ≡ w → inputs_of w ≡ i → k < length i.stimuli → k < length v.rows
row_within v w i k is e s h = let counted = (rows_seen v w i is e s).counted in omega (arith, h, counted)

-- ---- The instance of a row

-- the path of an instance of the application, by its index
path_there :
    (lib : Library) (is : List Instance) (numbers : List ℕ) (index : ℕ) (n : ℕ) (x : Instance) → AreNumbers lib [] is numbers → slice_get numbers index ≡ Some n
    → slice_get is index ≡ Some x → path_of lib n ≡ x.name ∷ []
path_there lib is numbers index n x are number instance =
    same_Some (path_of lib n) (x.name ∷ [])
    (ap (option_map (path_of lib)) (sym number) ∙ sym (slice_get-map (path_of lib) numbers index)
    ∙ ap (λ (ps : List Path). slice_get ps index) are.paths
    ∙ slice_get-map (λ (i : Instance). i.name ∷ []) is index ∙ ap (option_map (λ (i : Instance). i.name ∷ [])) instance)

pub number_there :
    (lib : Library) (is : List Instance) (numbers : List ℕ) (index : ℕ) (x : Instance) → AreNumbers lib [] is numbers → slice_get is index ≡ Some x
    → index < length numbers
number_there lib is numbers index x are instance =
    let within : index < length is = slice_get_within is index x instance in
    let counted : length numbers ≡ length is =
    sym (length-map numbers (path_of lib)) ∙ ap (λ (ps : List Path). length ps) are.paths ∙ length-map is (λ (i : Instance). i.name ∷ []) in
    omega (arith, within, counted)

-- ---- The stimulus of a row

pub row_is : (lib : Library) (ss : List Stimulus) (rows : List StimulusRow) (k : ℕ) (row : StimulusRow) → AreRows lib ss rows → slice_get rows k ≡ Some row → (s : Stimulus) × (slice_get ss k ≡ Some s) × IsRow lib s row
row_is lib ss rows k row are there =
    let within : k < length rows = slice_get_within rows k row there in
    let s = element_at ss k (omega (arith, within, are.counted)) in
    (s.0, s.1, are.each k s.0 row s.1 there)

-- a row that represents a stimulus, as one that was given, with the number of its instance
pub row_stands :
    (i : Inputs) (s : Stimulus) (row : StimulusRow) (top : List ℕ) (n number : ℕ) → IsRow i.library s row
    → AreNumbers i.library [] i.library.application.network.instances top → slice_get top row.instance ≡ Some n
    → IsRowOf (system_of i) (stimulus_of s) (record { row = number; target = record { instance = n; event = row.event; is_output = false }; sets = row.sets })
row_stands i s row top n number is numbers found =
    let lib = i.library in
    let sys = system_of i in
    let path : path_of lib n ≡ s.instance ∷ [] =
    path_there lib lib.application.network.instances top row.instance n is.instance numbers found is.at ∙ ap (λ (m : Name). m ∷ []) is.called in
    let kind : kind_at lib (path_of lib n) ≡ Some is.kind = ap (kind_at lib) path ∙ is.of_kind in
    let its : ports_at sys (path_at sys n) ≡ ports_of is.kind = ap (λ (o : Option Kind). elim o as (λ _. Ports) [ None ↦ ports [] [] [] [] | Some k ↦ ports_of k ]) kind in
    let event : event_at (ports_at sys (path_at sys n)).event_inputs row.event ≡ s.event =
    ap (λ (p : Ports). event_at p.event_inputs row.event) its ∙ ap (λ (o : Option Name). unwrap_or o []) is.event in
    let within : row.event < length (ports_of is.kind).event_inputs =
    subst (λ (m : ℕ). row.event < m) (length-map (ports_of is.kind).event_inputs (λ (e : EventPort). e.name))
    (slice_get_within (event_names (ports_of is.kind).event_inputs) row.event s.event is.event) in
    record {
      row = record {
        is_port = record {
          instance = all_at (λ (m : ℕ). m < length (paths_of lib)) top row.instance n numbers.within found;
          event = subst (λ (p : Ports). row.event < length p.event_inputs) (sym its) within;
        };
        input = refl;
        within = subst (λ (p : Ports). All (λ (x : InputValue). x.index < length p.inputs) row.sets) (sym its) is.sets.within;
      };
      port = λ j. record { at = path j; name = event j };
      sets = ap (λ (p : Ports). map (set_at p.inputs) row.sets) its ∙ is.sets.named;
    }

pub stimulus_stands :
    (i : Inputs) (rows : List StimulusRow) (k : ℕ) (row : StimulusRow) (top : List ℕ) (n : ℕ) (sets : Bor (List InputValue)) → AreRows i.library i.stimuli rows
    → slice_get rows k ≡ Some row → AreNumbers i.library [] i.library.application.network.instances top → slice_get top row.instance ≡ Some n → sets.now ≡ row.sets
    → IsStimulusAt i k (record { tick = row.tick; target = record { instance = n; event = row.event; is_output = false }; sets = sets })
stimulus_stands i rows k row top n sets are there numbers number same =
    let sys = system_of i in
    let s = row_is i.library i.stimuli rows k row are there in
    let of = row_stands i s.0 row top n k s.2 numbers number in
    record {
      stimulus = stimulus_of s.0;
      is = slice_get-map stimulus_of i.stimuli k ∙ ap (option_map stimulus_of) s.1;
      tick = s.2.tick;
      port = of.port;
      is_port = of.row.is_port;
      input = refl;
      sets = ap (map (set_of sys n)) same ∙ of.sets;
      within = subst (λ (xs : List InputValue). All (λ (x : InputValue). x.index < length (ports_at sys (path_at sys n)).inputs) xs) (sym same) of.row.within;
    }
