-- The files of a declaration that are read one after the other.
use Rattle.fbsim_command.proofs.lemmas.Common.{◌≡◌, ℕ, ◌+◌, ◌<◌, ◌≤◌, Bor, List, [], ◌∷◌, ◌++◌, length, get_or, map, take, drop, Result, Ok, Err, refl, sym, ap, ◌∙◌, subst, inr, arith, Vec, IfErr, IfOk, drop_more, length-map, map-append, take-append-drop, take_all, take_more, Reading, SourceFault, texts_of, Part}
use Rattle.fb_types.proofs.Common.{length-take-le}
use Rattle.clap.specs.Words.{Text}
use Rattle.fbsim_command.specs.Joining.{lines_of_files, text_of}
use Rattle.fbsim_command.specs.Reading.{AreTextsRead, IsDeclarationRead, IsDeclarationUnread, IsNextUnread, IsOwnUnread, IsTypeUnread, LacksText, asked}
use Rattle.fbsim_command.specs.declared.sources.SourceFault.TheVariants as source
use Rattle.fbsim_command.specs.declared.texts.Declared.{Declared}
use Rattle.fbsim_command.specs.declared.texts.Part.TheVariants.{BlockTypes, Declaration}
use Rattle.fbsim_command.specs.declared.texts.Unread.{Unread}
use Rattle.fbsim_command.specs.declared.join.FileLines.{FileLines}

abbrev now : Bor Text → Text
now t = t.now

module _ {S : Type 0} (reads : Reading S) where
  -- one more file
  pub one-more :
      (names : List Text) (name : Text) (old mid new : S) (texts : List Text) (t : Text) → AreTextsRead reads names old mid texts → reads mid name asked (Ok t) new
      → AreTextsRead reads (names ++ name ∷ []) old new (texts ++ t ∷ [])
  one-more [] name old mid new [] t same one = (new, subst (λ (s : S). reads s name asked (Ok t) new) same one, refl)
  one-more [] name old mid new (u ∷ us) t bad one = absurd bad
  one-more (n ∷ names) name old mid new [] t bad one = absurd bad
  one-more (n ∷ names) name old mid new (u ∷ us) t are one = (are.0, are.1, one-more names name are.0 mid new us t are.2 one)

  -- memory runs out when all are read
  pub memory-after :
      (names : List Text) (name : Text) (old new : S) (texts : List Text) → AreTextsRead reads (names ++ name ∷ []) old new texts → IsNextUnread reads names name old new source.Memory
  memory-after [] name old new [] bad = absurd bad
  memory-after [] name old new (t ∷ []) are =
      record { between = old; texts = []; read = refl; unread = inr (refl, (t, subst (λ (s : S). reads old name asked (Ok t) s) (sym are.2) are.1)) }
  memory-after [] name old new (t ∷ (u ∷ us)) are = absurd are.2
  memory-after (n ∷ names) name old new [] bad = absurd bad
  memory-after (n ∷ names) name old new (t ∷ us) are =
      let rest = memory-after names name are.0 new us are.2 in
      record { between = rest.between; texts = t ∷ rest.texts; read = (are.0, are.1, rest.read); unread = rest.unread }

  -- the first files of a list, and one more
  pub read-at :
      (ts : List (Bor Text)) (i : ℕ) (d : Bor Text) (old mid new : S) (texts more : List Text) (t : Text) → i < length ts → AreTextsRead reads (map now (take i ts)) old mid texts
      → reads mid (get_or ts i d).now asked (Ok t) new → more ≡ texts ++ t ∷ [] → AreTextsRead reads (map now (take (i + 1) ts)) old new more
  read-at ts i d old mid new texts more t lt are one is =
      let split : map now (take (i + 1) ts) ≡ map now (take i ts) ++ (get_or ts i d).now ∷ [] = ap (map now) (take_more ts i d lt) ∙ map-append now (take i ts) (get_or ts i d ∷ []) in
      subst (λ (names : List Text). AreTextsRead reads names old new more) (sym split)
      (subst (λ (us : List Text). AreTextsRead reads (map now (take i ts) ++ (get_or ts i d).now ∷ []) old new us) (sym is)
      (one-more (map now (take i ts)) (get_or ts i d).now old mid new texts t are one))

  -- the next one is not read
  pub unread-at :
      (ts : List (Bor Text)) (i : ℕ) (d : Bor Text) (old mid new : S) (texts : List Text) (fault : SourceFault) → i < length ts → AreTextsRead reads (map now (take i ts)) old mid texts
      → LacksText reads mid new (get_or ts i d).now fault → IsTypeUnread reads (map now ts) i old new fault
  unread-at ts i d old mid new texts fault lt are lacks =
      record {
        before = map now (take i ts);
        name = (get_or ts i d).now;
        following = map now (drop (i + 1) ts);
        parts =
            sym (ap (map now) (take-append-drop i ts)) ∙ map-append now (take i ts) (drop i ts)
            ∙ ap (λ (zs : List Text). map now (take i ts) ++ zs) (ap (map now) (drop_more ts i d lt));
        index_is = sym (length-map (take i ts) now ∙ length-take-le i ts (omega arith));
        is = record { between = mid; texts = texts; read = are; unread = lacks };
      }

  -- all are
  pub read-all :
      (ts : List (Bor Text)) (i : ℕ) (old new : S) (texts : List Text) → length ts ≤ i → AreTextsRead reads (map now (take i ts)) old new texts → AreTextsRead reads (map now ts) old new texts
  read-all ts i old new texts end are = subst (λ (us : List (Bor Text)). AreTextsRead reads (map now us) old new texts) (take_all i ts end) are

  -- of several files
  pub joined-read :
      (types : List (Bor Text)) (own : Text) (old new : S) (texts : List Text) (lines : List FileLines) (text : Text) → 0 < length types → AreTextsRead reads (map now types ++ own ∷ []) old new texts
      → text ≡ text_of texts → lines ≡ lines_of_files texts → IsDeclarationRead reads (map now types) own old new lines text
  joined-read [] own old new texts lines text some are is counted = absurd (omega arith)
  joined-read (t ∷ ts) own old new texts lines text some are is counted = record { texts = texts; read = are; joined = is; counted = counted }

  pub own-unread :
      (types : List (Bor Text)) (own : Text) (old new : S) (fault : SourceFault) → 0 < length types → IsNextUnread reads (map now types) own old new fault → IsOwnUnread reads (map now types) own old new fault
  own-unread [] own old new fault some is = absurd (omega arith)
  own-unread (t ∷ ts) own old new fault some is = is

  -- of one file
  pub alone-read :
      {E : Type 0} (types : List (Bor Text)) (own : Text) (old new : S) (r : Result Declared E) → length types ≡ 0 → IfOk r (λ d. reads old own asked (Ok d.text.items) new × (d.lines.items ≡ []))
      → IfOk r (λ d. IsDeclarationRead reads (map now types) own old new d.lines.items d.text.items)
  alone-read types own old new (Err e) none is = tt
  alone-read [] own old new (Ok d) none is = is
  alone-read (t ∷ ts) own old new (Ok d) none is = absurd (omega arith)

  pub alone-unread :
      {T : Type 0} (types : List (Bor Text)) (own : Text) (old new : S) (r : Result T Unread) → length types ≡ 0 → IfErr r (λ u. (u.part ≡ Declaration) × reads old own asked (Err u.fault) new)
      → IfErr r (λ u. IsDeclarationUnread reads (map now types) own old new u.part u.fault)
  alone-unread types own old new (Ok d) none is = tt
  alone-unread [] own old new (Err u) none is = subst (λ (p : Part). IsDeclarationUnread reads [] own old new p u.fault) (sym is.0) is.1
  alone-unread (t ∷ ts) own old new (Err u) none is = absurd (omega arith)

  -- the first that is not read is one of block types
  pub type-unread :
      (types : List Text) (own : Text) (old new : S) (part : Part) (index : ℕ) (fault : SourceFault) → part ≡ BlockTypes index → IsTypeUnread reads types index old new fault
      → IsDeclarationUnread reads types own old new part fault
  type-unread types own old new part index fault is unread = subst (λ (p : Part). IsDeclarationUnread reads types own old new p fault) (sym is) unread

  -- one more text, in other words
  pub one-more-is :
      (names : List Text) (name : Text) (old mid new : S) (texts more : List Text) (t : Text) → AreTextsRead reads names old mid texts → reads mid name asked (Ok t) new → more ≡ texts ++ t ∷ []
      → AreTextsRead reads (names ++ name ∷ []) old new more
  one-more-is names name old mid new texts more t are one is =
      subst (λ (us : List Text). AreTextsRead reads (names ++ name ∷ []) old new us) (sym is) (one-more names name old mid new texts t are one)
