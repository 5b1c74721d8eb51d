-- A resource as it is before the first event.
use Rattle.fb_resource.proofs.lemmas.Common.{◌≡◌, ℕ, ◌<◌, Bool, true, false, cond, eqb, List, [], ◌∷◌, ◌++◌, length, refl, sym, ap, subst, ◌∙◌, Option, Some, None, Vec, option_map, slice_get, eq-eqb, Inputs, AreAccepted, system_of, stimuli_of, or_else, world_of, Key, Contents, waiting, Event, event_of, IsOpened, CountsAre, IsHere, meaning, Forest, Represents}
use Rattle.fb_types.proofs.Common.{cond-true, cond-false, eqb-true, count_of, part_of, opening, opening_state}
use Rattle.fb_types.specs.Parts.{local_of}
use Rattle.fb_types.specs.Simulation.{opening_agenda}
use Rattle.fb_types.proofs.lemmas.lists.Lookups.{or_else_none}
use Rattle.fb_resource.proofs.lemmas.Begins.{here_opened}
use Rattle.fb_resource.proofs.lemmas.Meters.{fresh_counts}
use Rattle.fb_types.proofs.lemmas.lists.ByIndex.{slice_get-push}
use Rattle.fb_net.specs.Worlds.{IsForest}
use Rattle.fb_resource.specs.Resources.{AreOpened, IsFresh}
use Rattle.fb_resource.specs.declared.resource.Resource.{Resource}

-- what waits in both places, where one key is in one of them alone
parted : {X : Type 0} (b : Bool) (o : Option X) → or_else (cond b None o) (cond b o None) ≡ o
parted true o = refl
parted false o = or_else_none o

module _ (i : Inputs) (n : ℕ) (t : Forest) (a : Contents) (sent : Vec ℕ) (at : t.resource ≡ n) (opened : IsOpened i (Some n) a) where
  -- what a resource holds before its first event
  abbrev first : Resource
  first = record { tree = t; clock = 0; agenda = a; sent = sent; stopped = None }

  its : (j : Key) → j.resource ≡ n → meaning i a j ≡ opening_agenda (system_of i) (stimuli_of i) j
  its j here = opened.agenda j ∙ cond-true (eqb j.resource n) (opening_agenda (system_of i) (stimuli_of i) j) None (eq-eqb j.resource n here)

  at_home : (j : Key) (e : Event) → waiting a j ≡ Some e → j.resource ≡ t.resource
  at_home j e is = go (eqb j.resource n) refl
    where
      go : (b : Bool) → eqb j.resource n ≡ b → j.resource ≡ t.resource
      go true same = eqb-true j.resource n same ∙ sym at
      go false other =
          let none : meaning i a j ≡ None = opened.agenda j ∙ cond-false (eqb j.resource n) (opening_agenda (system_of i) (stimuli_of i) j) None other in
          let some : meaning i a j ≡ Some (event_of i e) = ap (option_map (event_of i)) is in
          absurd cc

  module _ (accepted : AreAccepted i) (forest : IsForest i t (world_of (opening_state (system_of i)) n)) (counts : CountsAre sent.items (opening_state (system_of i)).sent) where
    here : IsHere i (opening_state (system_of i)) t.resource 0 t fresh_counts
    here = subst (λ r. IsHere i (opening_state (system_of i)) r 0 t fresh_counts) (sym at) (here_opened i n t accepted forest)

    represents : (limit : ℕ) → Represents i limit (local_of (system_of i) limit n (opening (system_of i) (stimuli_of i)) None) first
    represents limit = record {
      state = opening_state (system_of i);
      part = ap (λ r. part_of (system_of i) r (opening_state (system_of i))) (sym at);
      blocks = here.blocks;
      typed = here.typed;
      unused = λ live tick late. refl;
      counts = counts;
      own = λ j arrival. cond-true _ None (opening_agenda (system_of i) (stimuli_of i) j) arrival;
      inbox = λ j other. cond-false _ (opening_agenda (system_of i) (stimuli_of i) j) None other;
      waits = λ j mine. parted _ (opening_agenda (system_of i) (stimuli_of i) j) ∙ sym (its j (mine ∙ at));
      stop = refl;
    }

    pub fresh : n < length (system_of i).resource_names → length sent.items ≡ (system_of i).links → IsFresh i n first
    fresh named counted = record {
      numbered = at;
      clock = refl;
      live = refl;
      of = record {
        named = subst (λ r. r < count_of (system_of i)) (sym at) named;
        order = opened.order;
        due = opened.due;
        counted = counted;
        home = at_home;
        represents = λ limit. (local_of (system_of i) limit n (opening (system_of i) (stimuli_of i)) None, represents limit);
      };
      state = represents;
    }

-- ---- All of them

-- The resources so far, as they are before the first event.
abbrev pub AreFresh : Inputs → List Resource → Type 0
AreFresh i xs = (r : ℕ) (x : Resource) → slice_get xs r ≡ Some x → IsFresh i r x

pub fresh_more : (i : Inputs) (xs : List Resource) (x : Resource) → AreFresh i xs → IsFresh i (length xs) x → AreFresh i (xs ++ x ∷ [])
fresh_more i xs x before one r y is = slice_get-push (λ k z. IsFresh i k z) xs x before one r y is

pub all_opened : (i : Inputs) (xs : List Resource) → length xs ≡ count_of (system_of i) → AreFresh i xs → AreOpened i xs
all_opened i xs counted each = record {
  counted = counted;
  numbered = λ r x is. (each r x is).numbered;
  of = λ r x is. (each r x is).of;
  clock = λ r x is. (each r x is).clock;
  state = λ limit r x is. (each r x is).state limit;
}

-- ---- The index of one that is handed on

pub at_middle : (ys : List Contents) (a : Contents) (zs : List Contents) → slice_get (ys ++ a ∷ zs) (length ys) ≡ Some a
at_middle [] a zs = refl
at_middle (y ∷ ys) a zs = at_middle ys a zs
