-- Where a location is in the text of the declaration (this project's own).
use Rattle.std.specs.Prelude.{◌≡◌, Bool, true, false, Option, Some, MatchOption}
use Rattle.fb_types.specs.declared.library.Library.{Library}
use Rattle.fb_read.specs.Blank.{Text}
use Rattle.fb_read.specs.Whole.{IsLibraryText}
use Rattle.fb_read_positions.specs.declared.position.Position.{Position}
use Rattle.fb_read_positions.specs.Places.{IsPlaceAt}
use Rattle.fb_read_positions.specs.declared.places.Place.{Place}
use Rattle.fb_why.specs.Marks.{IsMarkedPlace, IsUnmarked, is_of_expression}
use Rattle.fb_why.specs.Positions.{IsNowhereIf, position_of}
use Rattle.fb_why.specs.declared.place.PlacedFinding.{PlacedFinding}
use Rattle.fb_check.specs.declared.location.Location.{Location}
use Rattle.fb_why.specs.declared.location.FindingLocation.{FindingLocation}
use Rattle.fb_why.specs.declared.location.FindingLocation.TheVariants as at

-- The text declares a library, and the place is that of the position at which the location is shown.
pub record IsShown (text : Text) (location : Location) (place : Place) : Type 0 where
  pub library : Library
  pub read : IsLibraryText text library
  pub position : Position
  pub position_is : position_of library location ≡ Some position
  pub placed : IsPlaceAt text library position place

-- The text declares a library, and the location has no position in it, or nothing is at that.
pub record IsShownNowhere (text : Text) (location : Location) : Type 0 where
  pub library : Library
  pub read : IsLibraryText text library
  pub nowhere : IsNowhereIf text library (position_of library location)

-- A location that is about an expression is shown at what is marked in this, and another one at its position.
abbrev pub IsPlaceBy : Bool → Text → Location → Place → Type 0
IsPlaceBy true text location place = IsMarkedPlace text location place
IsPlaceBy false text location place = IsShown text location place

abbrev pub IsCheckedPlace : Text → Location → Place → Type 0
IsCheckedPlace text location place = IsPlaceBy (is_of_expression location) text location place

-- why a location has no place
abbrev pub HasNoPlaceBy : Bool → Text → Location → Type 0
HasNoPlaceBy true text location = IsUnmarked text location
HasNoPlaceBy false text location = IsShownNowhere text location

abbrev pub HasNoCheckedPlace : Text → Location → Type 0
HasNoCheckedPlace text location = HasNoPlaceBy (is_of_expression location) text location

abbrev pub IsCheckedPlaceIf : Text → Location → Option Place → Type 0
IsCheckedPlaceIf text location place = MatchOption place (HasNoCheckedPlace text location) (IsCheckedPlace text location)

-- The place is the location itself, or that of what was declared.
abbrev pub IsPlaceOf : Text → FindingLocation → Place → Type 0
IsPlaceOf text (at.Text location) place = location ≡ place
IsPlaceOf text (at.Check location) place = IsCheckedPlace text location place
IsPlaceOf text (at.Deployment location) place = ⊥
IsPlaceOf text (at.Stimuli location) place = ⊥

-- The location is in the deployment or in the stimuli, or nothing is where it is shown.
abbrev pub HasNoPlace : Text → FindingLocation → Type 0
HasNoPlace text (at.Text location) = ⊥
HasNoPlace text (at.Check location) = HasNoCheckedPlace text location
HasNoPlace text (at.Deployment location) = Unit {0}
HasNoPlace text (at.Stimuli location) = Unit {0}

-- what was found has its place, and none only if nothing is there
abbrev pub IsPlacedFinding : Text → PlacedFinding → Type 0
IsPlacedFinding text r = MatchOption r.place (HasNoPlace text r.finding.location) (IsPlaceOf text r.finding.location)
