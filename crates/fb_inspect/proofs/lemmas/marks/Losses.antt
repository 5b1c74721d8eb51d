-- Whether the event that was taken last was lost: what is marked says it.
use Rattle.fb_inspect.proofs.lemmas.Common.{◌≡◌, ℕ, List, [], ◌∷◌, ◌++◌, Bool, true, false, Option, Some, None, refl, sym, ◌∙◌, ap, subst, inl, inr, ◌&&◌, ◌||◌, if◌then◌else◌, list_any, Kind, Basic, Event, Composite, Emission, memory_of, with_values, BasicType, BlockType, ChartMarks, PiecesMark, event_number, Piece, Clears_by, Ran, is_loss, IsTakingAt, Look, Seen, Taking, emits_pieces, memory_pieces, reacted, IsKept, Remembered}
use Rattle.fb_types.specs.EventBlocks as blocks
use Rattle.fb_coverage.specs.Sets.{with_taken}
use Rattle.fb_inspect.specs.Markings.{TakingMarksAt}
use Rattle.fb_inspect.specs.walk.Chains.{Is_lost, Stops_by, Has, Emits}
use Rattle.fb_inspect.specs.walk.Walking.{is_chart}
use Rattle.fb_inspect.specs.declared.walk.blocks.Remembered.TheVariants as kept

or_true : (b c : Bool) → true ≡ (b || (true || c))
or_true true c = refl
or_true false c = refl

-- what is marked says whether an event was lost
pub lost_by :
    (t : BasicType) (i e : ℕ) (ps : List Piece) (m n : ChartMarks) → PiecesMark t i e ps m n → n.lost ≡ (m.lost || list_any is_loss ps)
lost_by t i e [] m n same = ap (λ (k : ChartMarks). k.lost) same ∙ or_false m.lost
  where
    or_false : (b : Bool) → b ≡ (b || false)
    or_false true = refl
    or_false false = refl
lost_by t i e (Clears_by y ∷ ps) m n are =
    lost_by t i e ps are.0 n are.2 ∙ ap (λ (k : ChartMarks). k.lost || list_any is_loss ps) are.1.2
lost_by t i e (Is_lost s ∷ ps) m n are =
    lost_by t i e ps are.0 n are.2 ∙ ap (λ (k : ChartMarks). k.lost || list_any is_loss ps) are.1 ∙ or_true m.lost (list_any is_loss ps)
lost_by t i e (Ran a before after ∷ ps) m n are = lost_by t i e ps are.0 n are.2 ∙ ap (λ (k : ChartMarks). k.lost || list_any is_loss ps) are.1
lost_by t i e (Stops_by r ∷ ps) m n are = lost_by t i e ps are.0 n are.2 ∙ ap (λ (k : ChartMarks). k.lost || list_any is_loss ps) are.1
lost_by t i e (Has memory due ∷ ps) m n are = lost_by t i e ps are.0 n are.2 ∙ ap (λ (k : ChartMarks). k.lost || list_any is_loss ps) are.1
lost_by t i e (Emits f ∷ ps) m n are = lost_by t i e ps are.0 n are.2 ∙ ap (λ (k : ChartMarks). k.lost || list_any is_loss ps) are.1

-- what is marked says whether the taking lost its event
pub lost_is :
    (types : List BlockType) (k : Option Kind) (x : Taking) (m n : ChartMarks) (t : BasicType) → TakingMarksAt types k x m n → k ≡ Some (Basic t)
    → list_any is_loss x.pieces ≡ n.lost
lost_is types k x m n t marks is =
    let chart = subst (λ (o : Option Kind). TakingMarksAt types o x m n) is marks in
    sym (lost_by t chart.number (event_number t x.first.event) x.pieces (with_taken chart.number (event_number t x.first.event) m) n chart.pieces)

-- ---- Blocks that lose no event

emits_lose : (es : List Emission) → list_any is_loss (emits_pieces es) ≡ false
emits_lose [] = refl
emits_lose (e ∷ es) = emits_lose es

-- whatever an event block remembers
memory_loses : (b : Bool) (p : Piece) (es : List Emission) → is_loss p ≡ false → list_any is_loss ((if b then [] else p ∷ []) ++ emits_pieces es) ≡ false
memory_loses true p es harmless = emits_lose es
memory_loses false p es harmless = ap (λ (c : Bool). c || list_any is_loss (emits_pieces es)) harmless ∙ emits_lose es

block_loses : (a b : Seen) (es : List Emission) → list_any is_loss (memory_pieces a b ++ emits_pieces es) ≡ false
block_loses a b es = memory_loses _ _ es refl

and_true : (b : Bool) → (b && true) ≡ b
and_true true = refl
and_true false = refl

and_false : (b : Bool) → (b && false) ≡ false
and_false true = refl
and_false false = refl

-- What is kept of an instance after a taking, and what is marked, says whether the taking lost its event.
pub loss_is :
    (types : List BlockType) (left : ℕ) (look : Look) (k : Option Kind) (x : Taking) (m n : ChartMarks) (b : Remembered) (s : Seen) → IsTakingAt left look k x → TakingMarksAt types k x m n
    → IsKept k b s → (n.lost && is_chart (Some b)) ≡ list_any is_loss x.pieces
loss_is types left look None x m n b s takes marks keeps = absurd takes
loss_is types left look (Some (Basic t)) x m n (kept.Basic c) s takes marks keeps = and_true n.lost ∙ sym (lost_is types (Some (Basic t)) x m n t marks refl)
loss_is types left look (Some (Basic t)) x m n (kept.Event e) s takes marks keeps = absurd keeps
loss_is types left look (Some (Basic t)) x m n kept.Composite s takes marks keeps = absurd keeps
loss_is types left look (Some (Event kind)) x m n (kept.Basic c) s takes marks keeps = absurd keeps
loss_is types left look (Some (Event kind)) x m n (kept.Event e) s (inl taken) marks keeps =
    let s = look.blocks x.first.at in
    let vars = with_values x.first.values s.variables in
    let r = blocks.reaction kind (memory_of s.memory) x.first.event x.first.key.tick vars in
    and_false n.lost ∙ sym (ap (list_any is_loss) taken.is.1 ∙ block_loses s (reacted s r vars s.due) x.emits)
loss_is types left look (Some (Event kind)) x m n (kept.Event e) s (inr timer) marks keeps =
    let s = look.blocks x.first.at in
    let r = blocks.expiry kind (memory_of s.memory) x.first.key.tick in
    and_false n.lost ∙ sym (ap (list_any is_loss) timer.is.1 ∙ block_loses s (reacted s r s.variables None) x.emits)
loss_is types left look (Some (Event kind)) x m n kept.Composite s takes marks keeps = absurd keeps
loss_is types left look (Some (Composite t)) x m n (kept.Basic c) s takes marks keeps = absurd keeps
loss_is types left look (Some (Composite t)) x m n (kept.Event e) s takes marks keeps = absurd keeps
loss_is types left look (Some (Composite t)) x m n kept.Composite s takes marks keeps = and_false n.lost ∙ sym (ap (list_any is_loss) takes.silent)
