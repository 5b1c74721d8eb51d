-- Lines of warnings with their places, one after another.
use Rattle.fbsim_command.proofs.lemmas.Common.{◌≡◌, ℕ, zero, suc, ◌+◌, ◌<◌, List, [], ◌∷◌, ◌++◌, ◌⊎◌, get_or, length, map, append_assoc, append-nil, Option, Some, None, Result, Ok, Err, inl, inr, refl, sym, ◌∙◌, ap, subst, arith, length-map, take, take_more, AllZip, IfOk, IfSome, Library, Place, Given, Bor, Vec, option_map}
use Rattle.std.specs.Option.{IfNone}
use Rattle.fbsim_command.proofs.lemmas.files.Counting.{same-item}
use Rattle.fb_types.proofs.Common.{Bool, IsTrue, MatchOption, false, false≢true, is_some, not, true, none-some, same_Some, unwrap_or}
use Rattle.std.proofs.lemmas.Slice.Zip.{AllZip-long}
use Rattle.fb_lint.specs.Positions.{position_of}
use Rattle.fb_lint.specs.declared.warning.Warning.{Warning}
use Rattle.fb_lint.specs.declared.warning.Warning.TheVariants.{EarlyStimulus, UnusedLink}
use Rattle.fb_read_positions.specs.Places as read
use Rattle.fb_read_positions.specs.Places.{IsPlaceFor, IsStretch, IsWithin}
use Rattle.fb_read_positions.specs.declared.position.Position.{Position}
use Rattle.fb_inputs.specs.declared.deploy_location.TableLocation.TheVariants as table
use Rattle.fb_inputs.specs.declared.position.DeployPosition.TheVariants as position
use Rattle.fb_inputs.specs.NearSpans.{IsNearInStimuli}
use Rattle.fb_read.specs.declared.token.Span.{Span}
use Rattle.fb_lint.specs.declared.warning.Warning.TheVariants as warn
use Rattle.fb_inputs.specs.declared.position.StimuliPosition.TheVariants as in_stimuli
use Rattle.fb_read_positions.specs.Spans.{IsNowhere}
use Rattle.fb_why.specs.InputStretches.{IsDeployOutside, IsDeployPlace}
use Rattle.fbsim_command.specs.WarningLines.{AreLines, HasNoLinkPlace, HasNoRowPlace, IsLinkPlace, IsLinkPlaceFor, IsOutsideRows, IsPlace, IsPlaceInRows, IsPlaceOfLink, IsPlaceNear, IsPlaceText, MayBePlaceInRows, MayBePlaceOfLink, IsPlacedLine, IsRowPlace, IsRowPlaceFor, Naming, place_text, row_position}

-- each warning has a position in the declaration but that of a link and that of a row
declared_at : (w : Warning) → ((link : ℕ) → w ≡ UnusedLink link → ⊥) → ((row : ℕ) → w ≡ EarlyStimulus row → ⊥) → position_of w ≡ None → ⊥
declared_at (warn.UnsampledInput b k) no_link no_row is = absurd cc
declared_at (warn.UnfedInput s i k) no_link no_row is = absurd cc
declared_at (warn.UnsampledInGuard b x k) no_link no_row is = absurd cc
declared_at (warn.UnsampledInAlgorithm b a k) no_link no_row is = absurd cc
declared_at (warn.UnreachedState b k) no_link no_row is = absurd cc
declared_at (warn.FinalState b k) no_link no_row is = absurd cc
declared_at (warn.ShadowedTransition b k) no_link no_row is = absurd cc
declared_at (warn.UnnamedEvent b k) no_link no_row is = absurd cc
declared_at (warn.UnusedAlgorithm b k) no_link no_row is = absurd cc
declared_at (warn.UnusedType b) no_link no_row is = absurd cc
declared_at (warn.UnusedPort b p k) no_link no_row is = absurd cc
declared_at (warn.UnassignedEvent b k) no_link no_row is = absurd cc
declared_at (warn.UnusedLink k) no_link no_row is = no_link k refl
declared_at (warn.UnsentOutput b k) no_link no_row is = absurd cc
declared_at (warn.UnreachedInstance s i) no_link no_row is = absurd cc
declared_at (warn.UnreachedEvent s i k) no_link no_row is = absurd cc
declared_at (warn.UnheldConstant b a k) no_link no_row is = absurd cc
declared_at (warn.ZeroDivisor b a k) no_link no_row is = absurd cc
declared_at (warn.ZeroDivisorInGuard b x) no_link no_row is = absurd cc
declared_at (warn.EndlessState b s) no_link no_row is = absurd cc
declared_at (warn.SilentSource s c) no_link no_row is = absurd cc
declared_at (warn.RepeatedLabel b a k) no_link no_row is = absurd cc
declared_at (warn.UnreadInternal b v) no_link no_row is = absurd cc
declared_at (warn.EarlyStimulus s) no_link no_row is = no_row s refl

module _ (n : Naming) (given : Given) (library : Library) where
  -- the text of a location is that of the warning at whose position it is
  is_place : (w : Warning) (at : Place) (text : List ℕ) → IsPlaceFor given.declaration library (position_of w) (Some at) → IsPlaceText n at.line at.column text → IsPlace n given library w text
  is_place w at text placed shown = go (position_of w) refl placed
    where
      go : (p : Option Position) → position_of w ≡ p → IsPlaceFor given.declaration library p (Some at) → IsPlace n given library w text
      go None is h = absurd cc
      go (Some p) is h = inl (record { position = p; position_is = is; place = at; placed = h; shown = shown })

  pub place_shown :
      {S E : Type 0} (bytes : S → List ℕ) (r : Result S E) (w : Warning) (o : Option Place) (at : Place) → o ≡ Some at → IsPlaceFor given.declaration library (position_of w) o
      → IfOk r (λ s. IsPlaceText n at.line at.column (bytes s)) → IfOk r (λ s. IsPlace n given library w (bytes s))
  place_shown bytes (Err e) w o at is placed shown = tt
  place_shown bytes (Ok s) w o at is placed shown =
      is_place w at (bytes s) (subst (λ (q : Option Place). IsPlaceFor given.declaration library (position_of w) q) is placed) shown

  pub link_shown :
      {S E : Type 0} (bytes : S → List ℕ) (r : Result S E) (w : Warning) (link : ℕ) → w ≡ UnusedLink link → IfOk r (λ s. IsLinkPlace n given.deploy link (bytes s) ⊎ (HasNoLinkPlace n given.deploy link × (bytes s ≡ [])))
      → IfOk r (λ s. IsPlace n given library w (bytes s))
  link_shown bytes (Err e) w link is shown = tt
  link_shown bytes (Ok s) w link is (inl at) = inr (inl (link, is, at))
  link_shown bytes (Ok s) w link is (inr none) = inr (inr (inr (inl (link, is, none.0), none.1)))

  pub row_shown :
      {S E : Type 0} (bytes : S → List ℕ) (r : Result S E) (w : Warning) (row : ℕ) → w ≡ EarlyStimulus row → IfOk r (λ s. IsRowPlace n given.stimuli row (bytes s) ⊎ (HasNoRowPlace n given.stimuli row × (bytes s ≡ [])))
      → IfOk r (λ s. IsPlace n given library w (bytes s))
  row_shown bytes (Err e) w row is shown = tt
  row_shown bytes (Ok s) w row is (inl at) = inr (inr (inl (row, is, at)))
  row_shown bytes (Ok s) w row is (inr none) = inr (inr (inr (inr (inl (row, is, none.0)), none.1)))

  pub declared_shown :
      {S E : Type 0} (bytes : S → List ℕ) (r : Result S E) (w : Warning) (o : Option Place) → ((link : ℕ) → w ≡ UnusedLink link → ⊥) → ((row : ℕ) → w ≡ EarlyStimulus row → ⊥)
      → IsPlaceFor given.declaration library (position_of w) o → IfSome o (λ at. IfOk r (λ s. IsPlaceText n at.line at.column (bytes s))) → IfNone o (IfOk r (λ s. bytes s ≡ [])) → IfOk r (λ s. IsPlace n given library w (bytes s))
  declared_shown bytes (Err e) w o no_link no_row placed some none = tt
  declared_shown bytes (Ok s) w None no_link no_row placed some none = inr (inr (inr (inr (inr (go (position_of w) refl placed)), none)))
    where
      go : (p : Option Position) → position_of w ≡ p → IsPlaceFor given.declaration library p None → (position : Position) × (position_of w ≡ Some position) × IsNowhere given.declaration library position
      go None is h = absurd (declared_at w no_link no_row is)
      go (Some p) is h = (p, is, h)
  declared_shown bytes (Ok s) w (Some at) no_link no_row placed some none = is_place w at (bytes s) placed some

  abbrev pub AreAt : List Warning → List (Option Place) → Type 0
  AreAt ws os = AllZip (IsPlaceFor given.declaration library) (map position_of ws) os

  -- the location of a warning is at the same index
  pub place_at_index :
      (ws : List Warning) (os : List (Option Place)) (k : ℕ) (d : Warning) (e : Option Place) → AreAt ws os → k < length ws
      → IsPlaceFor given.declaration library (position_of (get_or ws k d)) (get_or os k e)
  place_at_index [] os k d e all within = absurd (omega arith)
  place_at_index (x ∷ ws) [] k d e all within = absurd all
  place_at_index (x ∷ ws) (y ∷ os) zero d e all within = all.0
  place_at_index (x ∷ ws) (y ∷ os) (suc k) d e all within = place_at_index ws os k d e all.1 (omega arith)

  pub as_many_places : (ws : List Warning) (os : List (Option Place)) → AreAt ws os → length os ≡ length ws
  as_many_places ws os all = AllZip-long (IsPlaceFor given.declaration library) (map position_of ws) os all ∙ length-map ws position_of

  -- one line more
  pub lines_push :
      (ws : List Warning) (w : Warning) (text line : List ℕ) → AreLines n given library ws text → IsPlacedLine n given library w line
      → AreLines n given library (ws ++ w ∷ []) (text ++ line)
  lines_push [] w text line are is = (line, [], is, refl, ap (λ (t : List ℕ). t ++ line) are ∙ sym (append-nil line))
  lines_push (v ∷ ws) w text line are is =
      let rest = lines_push ws w are.1 line are.3 is in
      (are.0, are.1 ++ line, are.2, rest, ap (λ (t : List ℕ). t ++ line) are.4 ∙ append_assoc are.0 are.1 line)

-- an input that is given, or not
pub given-some : (o : Option (Bor (List ℕ))) (b : Bool) → is_some o ≡ not b → b ≡ false → (text : List ℕ) × (option_map (λ (c : Bor (List ℕ)). c.now) o ≡ Some text)
given-some None b is so = absurd (let bad : false ≡ true = is ∙ ap not so in cc)
given-some (Some c) b is so = (c.now, refl)

pub given-none : (o : Option (Bor (List ℕ))) (b : Bool) → is_some o ≡ not b → b ≡ true → option_map (λ (c : Bor (List ℕ)). c.now) o ≡ None
given-none None b is so = refl
given-none (Some c) b is so = absurd (let bad : true ≡ false = is ∙ ap not so in cc)

-- the text of the place of a link
pub link_placed :
    {S E : Type 0} (n : Naming) (deploy : Option (List ℕ)) (link : ℕ) (bytes : S → List ℕ) (r : Result S E) (name text : List ℕ) (o : Option Place) (at : Place) → n.deploy ≡ Some name → deploy ≡ Some text → o ≡ Some at
    → MayBePlaceOfLink deploy link o → IfOk r (λ s. bytes s ≡ place_text name at.line at.column) → IfOk r (λ s. IsLinkPlace n deploy link (bytes s) ⊎ (HasNoLinkPlace n deploy link × (bytes s ≡ [])))
link_placed n deploy link bytes (Err e) name text o at named given is placed shown = tt
link_placed n deploy link bytes (Ok s) name text o at named given is placed shown =
    let here = subst (λ (p : Option Place). MayBePlaceOfLink deploy link p) is placed in
    inl (record { name = name; named = named; bytes = text; given = given; place = at; placed = subst (λ (t : Option (List ℕ)). IsPlaceOfLink t link at) given here; shown = shown })

pub link_unplaced : (n : Naming) (deploy : Option (List ℕ)) (link : ℕ) (text : List ℕ) (o : Option Place) → deploy ≡ Some text → o ≡ None → MayBePlaceOfLink deploy link o → HasNoLinkPlace n deploy link
link_unplaced n deploy link text o given is placed =
    let here = subst (λ (p : Option Place). MayBePlaceOfLink deploy link p) is placed in
    inr (inr (text, given, subst (λ (d : Option (List ℕ)). IfSome d (λ bytes. IsDeployOutside bytes (position.Table (table.Link link)))) given here))

-- the text of the place of a row
pub row_placed :
    {S E : Type 0} (n : Naming) (stimuli : Option (List ℕ)) (row : ℕ) (bytes : S → List ℕ) (r : Result S E) (name text : List ℕ) (o : Option Place) (at : Place) → n.stimuli ≡ Some name → stimuli ≡ Some text → o ≡ Some at
    → MayBePlaceInRows stimuli (in_stimuli.Row row) o → IfOk r (λ s. bytes s ≡ place_text name at.line at.column) → IfOk r (λ s. IsRowPlace n stimuli row (bytes s) ⊎ (HasNoRowPlace n stimuli row × (bytes s ≡ [])))
row_placed n stimuli row bytes (Err e) name text o at named given is placed shown = tt
row_placed n stimuli row bytes (Ok s) name text o at named given is placed shown =
    let here = subst (λ (p : Option Place). MayBePlaceInRows stimuli (in_stimuli.Row row) p) is placed in
    inl (record { name = name; named = named; bytes = text; given = given; place = at; placed = subst (λ (t : Option (List ℕ)). IsPlaceInRows t (in_stimuli.Row row) at) given here; shown = shown })

pub row_unplaced : (n : Naming) (stimuli : Option (List ℕ)) (row : ℕ) (text : List ℕ) (o : Option Place) → stimuli ≡ Some text → o ≡ None → MayBePlaceInRows stimuli (in_stimuli.Row row) o → HasNoRowPlace n stimuli row
row_unplaced n stimuli row text o given is placed =
    let here = subst (λ (p : Option Place). MayBePlaceInRows stimuli (in_stimuli.Row row) p) is placed in
    inr (inr (text, given, subst (λ (d : Option (List ℕ)). IsOutsideRows d (in_stimuli.Row row)) given here))

-- ---- The places of links

abbrev pub AreLinksAt : (deploy : Option (List ℕ)) → List Warning → List (Option Place) → Type 0
AreLinksAt deploy ws os = AllZip (IsLinkPlaceFor deploy) ws os

-- the place of a link is at the same index as its warning
pub link_at_index : (deploy : Option (List ℕ)) (ws : List Warning) (os : List (Option Place)) (k : ℕ) (d : Warning) (e : Option Place) → AreLinksAt deploy ws os → k < length ws → IsLinkPlaceFor deploy (get_or ws k d) (get_or os k e)
link_at_index deploy [] os k d e all within = absurd (omega arith)
link_at_index deploy (x ∷ ws) [] k d e all within = absurd all
link_at_index deploy (x ∷ ws) (y ∷ os) zero d e all within = all.0
link_at_index deploy (x ∷ ws) (y ∷ os) (suc k) d e all within = link_at_index deploy ws os k d e all.1 (omega arith)

pub as_many_links : (deploy : Option (List ℕ)) (ws : List Warning) (os : List (Option Place)) → AreLinksAt deploy ws os → length os ≡ length ws
as_many_links deploy ws os all = AllZip-long (IsLinkPlaceFor deploy) ws os all

links_push : (deploy : Option (List ℕ)) (ws : List Warning) (w : Warning) (os : List (Option Place)) (o : Option Place) → AreLinksAt deploy ws os → IsLinkPlaceFor deploy w o → AreLinksAt deploy (ws ++ w ∷ []) (os ++ o ∷ [])
links_push deploy [] w [] o all is = (is, tt)
links_push deploy [] w (p ∷ os) o all is = absurd all
links_push deploy (v ∷ ws) w [] o all is = absurd all
links_push deploy (v ∷ ws) w (p ∷ os) o all is = (all.0, links_push deploy ws w os o all.1 is)

-- one place more
pub links_next :
    (deploy : Option (List ℕ)) (ws : List Warning) (k : ℕ) (d : Warning) (os new : List (Option Place)) (o : Option Place) → k < length ws → AreLinksAt deploy (take k ws) os → IsLinkPlaceFor deploy (get_or ws k d) o
    → new ≡ os ++ o ∷ [] → AreLinksAt deploy (take (k + 1) ws) new
links_next deploy ws k d os new o within before placed pushed =
    let w = get_or ws k d in
    let is : w ≡ get_or ws k w = same-item ws k d w within in
    subst (λ (xs : List Warning). AreLinksAt deploy xs new) (sym (take_more ws k w within ∙ ap (λ (x : Warning). take k ws ++ x ∷ []) (sym is)))
    (subst (λ (ps : List (Option Place)). AreLinksAt deploy (take k ws ++ w ∷ []) ps) (sym pushed) (links_push deploy (take k ws) w os o before placed))

-- without a deployment nothing is said
links_ungiven : (ws : List Warning) (os : List (Option Place)) (text : List ℕ) → AreLinksAt (Some text) ws os → AreLinksAt None ws os
links_ungiven [] [] text all = tt
links_ungiven [] (o ∷ os) text all = absurd all
links_ungiven (w ∷ ws) [] text all = absurd all
links_ungiven (w ∷ ws) (o ∷ os) text all = (λ link is. here o link, links_ungiven ws os text all.1)
  where
    here : (p : Option Place) (link : ℕ) → MayBePlaceOfLink None link p
    here None link = tt
    here (Some at) link = tt

pub links_given :
    (deploy : Option (Bor (List ℕ))) (empty text : Bor (List ℕ)) (outlined : List ℕ) (ws : List Warning) (os : List (Option Place)) → text ≡ unwrap_or deploy empty → outlined ≡ text.now → AreLinksAt (Some outlined) ws os
    → AreLinksAt (option_map (λ (b : Bor (List ℕ)). b.now) deploy) ws os
links_given None empty text outlined ws os is same all = links_ungiven ws os outlined all
links_given (Some b) empty text outlined ws os is same all =
    subst (λ (t : List ℕ). AreLinksAt (Some t) ws os) (same ∙ ap (λ (x : Bor (List ℕ)). x.now) is) all

-- the row of a warning
pub row_of_warning : (stimuli : Option (List ℕ)) (w : Warning) (row : ℕ) (o : Option Place) → w ≡ EarlyStimulus row → IsRowPlaceFor stimuli w o → MayBePlaceInRows stimuli (in_stimuli.Row row) o
row_of_warning stimuli w row o is placed = subst (λ (v : Warning). IsRowPlaceFor stimuli v o) is placed

abbrev pub AreRowsAt : (stimuli : Option (List ℕ)) → List Warning → List (Option Place) → Type 0
AreRowsAt stimuli ws os = AllZip (IsRowPlaceFor stimuli) ws os

-- the place of a row is at the same index as its warning
pub row_at_index : (stimuli : Option (List ℕ)) (ws : List Warning) (os : List (Option Place)) (k : ℕ) (d : Warning) (e : Option Place) → AreRowsAt stimuli ws os → k < length ws → IsRowPlaceFor stimuli (get_or ws k d) (get_or os k e)
row_at_index stimuli [] os k d e all within = absurd (omega arith)
row_at_index stimuli (x ∷ ws) [] k d e all within = absurd all
row_at_index stimuli (x ∷ ws) (y ∷ os) zero d e all within = all.0
row_at_index stimuli (x ∷ ws) (y ∷ os) (suc k) d e all within = row_at_index stimuli ws os k d e all.1 (omega arith)

pub as_many_rows : (stimuli : Option (List ℕ)) (ws : List Warning) (os : List (Option Place)) → AreRowsAt stimuli ws os → length os ≡ length ws
as_many_rows stimuli ws os all = AllZip-long (IsRowPlaceFor stimuli) ws os all

-- ---- The places of rows

-- the bytes near the positions, and their places
pub placed_zip :
    (text : List ℕ) (ws : List Warning) (spans : List Span) (os : List (Option Place)) → AllZip (IsNearInStimuli text) (map row_position ws) spans → AllZip (IsPlaceNear text) spans os → AreRowsAt (Some text) ws os
placed_zip text [] [] [] near places = tt
placed_zip text [] [] (o ∷ os) near places = absurd places
placed_zip text [] (s ∷ spans) os near places = absurd near
placed_zip text (w ∷ ws) [] os near places = absurd near
placed_zip text (w ∷ ws) (s ∷ spans) [] near places = absurd places
placed_zip text (w ∷ ws) (s ∷ spans) (o ∷ os) near places = (here o places.0, placed_zip text ws spans os near.1 places.1)
  where
    here : (p : Option Place) → IsPlaceNear text s p → IsRowPlaceFor (Some text) w p
    here None is = record { span = s; near = near.0; outside = is }
    here (Some at) is = record { span = s; near = near.0; there = is.0; located = is.1 }

-- without stimuli nothing is said
pub unplaced_zip : (ws : List Warning) (spans : List Span) (os : List (Option Place)) (text : List ℕ) → AllZip (IsNearInStimuli text) (map row_position ws) spans → AllZip (IsPlaceNear text) spans os → AreRowsAt None ws os
unplaced_zip [] [] [] text near places = tt
unplaced_zip [] [] (o ∷ os) text near places = absurd places
unplaced_zip [] (s ∷ spans) os text near places = absurd near
unplaced_zip (w ∷ ws) [] os text near places = absurd near
unplaced_zip (w ∷ ws) (s ∷ spans) [] text near places = absurd places
unplaced_zip (w ∷ ws) (s ∷ spans) (o ∷ os) text near places = (here o, unplaced_zip ws spans os text near.1 places.1)
  where
    here : (p : Option Place) → IsRowPlaceFor None w p
    here None = tt
    here (Some at) = tt

pub rows_placed :
    (stimuli : Option (List ℕ)) (text : List ℕ) (ws : List Warning) (spans : List Span) (os : List (Option Place)) → ((t : List ℕ) → stimuli ≡ Some t → text ≡ t) → AllZip (IsNearInStimuli text) (map row_position ws) spans
    → AllZip (IsPlaceNear text) spans os → AreRowsAt stimuli ws os
rows_placed None text ws spans os same near places = unplaced_zip ws spans os text near places
rows_placed (Some t) text ws spans os same near places = subst (λ (x : List ℕ). AreRowsAt (Some x) ws os) (same t refl) (placed_zip text ws spans os near places)

-- the text that is read, if stimuli are given
text_given : (given : Option (Bor (List ℕ))) (empty text : Bor (List ℕ)) → text ≡ unwrap_or given empty → (t : List ℕ) → option_map (λ (b : Bor (List ℕ)). b.now) given ≡ Some t → text.now ≡ t
text_given None empty text is t some = absurd (none-some t some)
text_given (Some b) empty text is t some = ap (λ (x : Bor (List ℕ)). x.now) is ∙ same_Some b.now t some

pub rows_found :
    {E : Type 0} (given : Option (Bor (List ℕ))) (empty text : Bor (List ℕ)) (ws : List Warning) (spans : List Span) (r : Result (Vec (Option Place)) E) → text ≡ unwrap_or given empty
    → AllZip (IsNearInStimuli text.now) (map row_position ws) spans → IfOk r (λ v. AllZip (IsPlaceNear text.now) spans v.items) → IfOk r (λ v. AreRowsAt (option_map (λ (b : Bor (List ℕ)). b.now) given) ws v.items)
rows_found given empty text ws spans (Err e) is near placed = tt
rows_found given empty text ws spans (Ok v) is near placed =
    rows_placed (option_map (λ (b : Bor (List ℕ)). b.now) given) text.now ws spans v.items (text_given given empty text is) near placed

-- one place more
places_push : (text : List ℕ) (spans : List Span) (s : Span) (os : List (Option Place)) (o : Option Place) → AllZip (IsPlaceNear text) spans os → IsPlaceNear text s o → AllZip (IsPlaceNear text) (spans ++ s ∷ []) (os ++ o ∷ [])
places_push text [] s [] o all is = (is, tt)
places_push text [] s (p ∷ os) o all is = absurd all
places_push text (r ∷ spans) s [] o all is = absurd all
places_push text (r ∷ spans) s (p ∷ os) o all is = (all.0, places_push text spans s os o all.1 is)

pub places_next :
    (text : List ℕ) (spans : List Span) (k : ℕ) (s : Span) (os new : List (Option Place)) (o : Option Place) → k < length spans → s ≡ get_or spans k s → AllZip (IsPlaceNear text) (take k spans) os
    → IfSome o (read.IsPlace text) → IfSome o (λ at. IsStretch s.start s.end at) → (IsWithin text s.start s.end → IsTrue (is_some o)) → new ≡ os ++ o ∷ [] → AllZip (IsPlaceNear text) (take (k + 1) spans) new
places_next text spans k s os new o within is before placed there found pushed =
    subst (λ (xs : List Span). AllZip (IsPlaceNear text) xs new) (sym (take_more spans k s within ∙ ap (λ (x : Span). take k spans ++ x ∷ []) (sym is)))
    (subst (λ (ps : List (Option Place)). AllZip (IsPlaceNear text) (take k spans ++ s ∷ []) ps) (sym pushed) (places_push text (take k spans) s os o before (here o placed there found)))
  where
    here : (p : Option Place) → IfSome p (read.IsPlace text) → IfSome p (λ at. IsStretch s.start s.end at) → (IsWithin text s.start s.end → IsTrue (is_some p)) → IsPlaceNear text s p
    here None a b w = λ there. absurd (false≢true (w there))
    here (Some at) a b w = (b, a)

-- the place of a link that a warning is about
pub link_found :
    {E : Type 0} (text : List ℕ) (w : Warning) (link : ℕ) (r : Result (Option Place) E) → w ≡ UnusedLink link
    → IfOk r (λ o. MatchOption o (IsDeployOutside text (position.Table (table.Link link))) (IsDeployPlace text (position.Table (table.Link link)))) → IfOk r (IsLinkPlaceFor (Some text) w)
link_found text w link (Err e) at found = tt
link_found text w link (Ok o) at found = λ k is.
    let both : UnusedLink link ≡ UnusedLink k = sym at ∙ is in
    let same : link ≡ k = cc in
    subst (λ (l : ℕ). MayBePlaceOfLink (Some text) l o) same found
