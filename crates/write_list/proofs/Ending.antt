-- The outcome of writing a list: a refusal that leaves every room as it was, or the text in its room and the work room cleared. Assumes nothing.
use mathlib.Core.Path.{◌≡◌, refl, sym, ap, ap₂, subst, ◌∙◌}
use mathlib.Core.Bool.{Bool, true, false}
use mathlib.Core.Logic.{inl, inr, ⊎_elim}
use mathlib.Core.List.{List, [], ◌∷◌, ◌++◌}
use Prim.Native.Nat.{ℕ, ◌+◌, ◌*◌, ◌/◌, ◌≤◌, ◌<◌}
use native.Mathlib.Omega.{arith}
use lib.Dec.{leb, ltb}
use lib.Ieee.{Float}
use lib.ListN.{length, length-append}
use borrow.Author.Tests.{leb-true, ltb-true, ltb-false, le-ltb}
use Rattle.rules.specs.Refusal.{ok, no, decided, no6}
use Rattle.rules.specs.Rooms.{work_room, filled, cleared, accepted, outcome}
use Rattle.rules.specs.ListCall.{list_rooms, ListRooms, list_check, write_list}
use Rattle.rule_laws.proofs.Decided.{decided_some, decided_none}
use Rattle.refuse.specs.Accepted.{Accepted}
use Rattle.std.specs.Prelude.{Result, Ok, Err}
use Rattle.refuse.specs.Verdicts.{number_of, place_of, Limits}
use Rattle.refuse.specs.declared.Refusal.{Refusal}
use Rattle.refuse.specs.declared.Refusal.TheVariants.{ShortRoom}
use Rattle.refuse.proofs.Groups.{hand_on, last}
use Rattle.list_refusal.specs.Checks.{input_list, ReadyTold}
use Rattle.list_refusal.proofs.Short.{short_text, short_work, long}
use Rattle.list_refusal.proofs.Parts.{ready_parted, ready_long, parted_short}
use Rattle.list_refusal.proofs.Accept.{list_is, input_accepted, text_fits}
use Rattle.list_rows.specs.Prepared.{PrepareAsks}
use Rattle.list_room.specs.Parts.{joined, Uniform, UniformTold, Changed, FillGives}
use Rattle.list_room.specs.Put.{text_of, PutGives}
use Rattle.write_list.specs.Called.{LongAsks, LongTold, rooms_of, outcome_of, ThereAsks, ThereGives, Kept, ListGives}
use Rattle.list_room.proofs.Uniforms.{clash}
use Rattle.list_room.proofs.Joined.{refilled}

module _ {ps : List Float} {fs : List ℕ} {s : Float} {options : ℕ} (q : LongAsks ps fs s options) where
  -- the input is good
  pub input : Accepted ps fs
  input = (input_accepted ps fs s options q.fine).input

  -- P and F are not too large
  pub limits : Limits (length ps / 3) (length fs / 3)
  limits = let a = input.faces_fine in record { points = a.points; faces = a.few }

  -- ---- 6, of the text

  -- an ample room
  pub ample_fits : {room : ℕ} {r : Bool} → r ≡ leb (10 * (length ps / 3) + 118 * (length fs / 3)) room → r ≡ true → length (text_of ps fs s options) ≤ room
  ample_fits {room} e t = omega (arith, text_fits ps fs s options q.fine, leb-true (10 * (length ps / 3) + 118 * (length fs / 3)) room (sym e ∙ t))

  -- is not too short
  pub ample : (room : ℕ) {r : Bool} → r ≡ leb (10 * (length ps / 3) + 118 * (length fs / 3)) room → r ≡ true → false ≡ ltb room (length (text_of ps fs s options))
  ample room e t = sym (le-ltb room (length (text_of ps fs s options)) (ample_fits e t))

  module _ {room : ℕ} {xs os w : List ℕ} {n c : ℕ} where
    -- it fits
    pub told_fits : length (text_of ps fs s options) ≤ room → LongTold ps fs s options room xs os w n c false
    told_fits h = record { so = λ t. clash t; not_so = λ t. inl h }

    -- the parts are all one number
    pub told_uniform : {r : Bool} → UniformTold xs os w n c r → r ≡ true → LongTold ps fs s options room xs os w n c false
    told_uniform u e = record { so = λ t. clash t; not_so = λ t. inr (u.so e) }

    -- it was searched for
    pub told_searched : {r : Bool} → r ≡ ltb room (length (text_of ps fs s options)) → LongTold ps fs s options room xs os w n c r
    told_searched e =
        record {
          so = λ t. ltb-true room (length (text_of ps fs s options)) (sym e ∙ t);
          not_so = λ t. inl (ltb-false room (length (text_of ps fs s options)) (sym e ∙ t));
        }

-- ---- the rules' outcome

module _ (ps : List Float) (fs : List ℕ) (s : Float) (options : ℕ) (text : List ℕ) where
  -- the text that is to be written
  abbrev made : List ℕ
  made = text_of ps fs s options

  -- the number of points
  abbrev P : ℕ
  P = length ps / 3

  -- that of faces
  abbrev F : ℕ
  F = length fs / 3

  -- the rooms of an accepted call
  abbrev after : List ℕ → ListRooms
  after work = record { text = filled 0 (length made) made text; work = cleared (work_room P F) work }

  -- where the input is fine 6 decides
  six_is : LongAsks ps fs s options → (work : List ℕ) → no6 (list_rooms made P F) (length text ∷ length work ∷ []) ≡ list_check ps fs s options (rooms_of text work)
  six_is q work =
      let six = no6 (list_rooms made P F) (length text ∷ length work ∷ []) in
      last six six refl ∙ sym (decided_none (input_list ps fs s options) (six ∷ []) q.fine) ∙ list_is ps fs s options (rooms_of text work)

  -- a refusal changes no buffer
  refused_by : (work : List ℕ) (r : Refusal) → no (number_of r) (place_of r) ≡ list_check ps fs s options (rooms_of text work) → outcome_of (Err r) text work ≡ write_list ps fs s options (rooms_of text work)
  unfolding write_list outcome
  refused_by work r e = ap (λ c. outcome c (rooms_of text work) (length made ∷ []) (after work)) e

  -- the text does not fit
  no_room : LongAsks ps fs s options → length text < length made → (work : List ℕ) → outcome_of (Err (ShortRoom 0)) text work ≡ write_list ps fs s options (rooms_of text work)
  no_room q h work = refused_by work (ShortRoom 0) (short_text made P F (length text) (length work) h ∙ six_is q work)

  -- it fits, and the work room is too short
  no_work : LongAsks ps fs s options → length made ≤ length text → (work : List ℕ) → length work < work_room P F → outcome_of (Err (ShortRoom 1)) text work ≡ write_list ps fs s options (rooms_of text work)
  no_work q h work l = refused_by work (ShortRoom 1) (short_work made P F (length text) (length work) h l ∙ six_is q work)

  -- nothing is refused
  accepted-by :
      LongAsks ps fs s options → length made ≤ length text → (work : List ℕ) → work_room P F ≤ length work → {text' work' : List ℕ} {r : ℕ} → r ≡ length made
      → text' ≡ filled 0 r made text → work' ≡ cleared (work_room P F) work → outcome_of (Ok r) text' work' ≡ write_list ps fs s options (rooms_of text work)
  unfolding write_list outcome
  accepted-by q h work l {text'} {work'} {r} e t w =
      let u : text' ≡ filled 0 (length made) made text = t ∙ ap (λ k. filled 0 k made text) e in
      ap₂ (λ (k : List ℕ) (rooms : ListRooms). record { answer = accepted k; rooms = rooms }) (ap (λ k. k ∷ []) e) (λ i. record { text = u i; work = w i })
      ∙ ap (λ c. outcome c (rooms_of text work) (length made ∷ []) (after work)) (long made P F (length text) (length work) h l ∙ six_is q work)

-- ---- the call where the parts are ready

-- how long the parts are as one room
joined_long : (xs os w : List ℕ) → length (joined xs os w) ≡ length xs + length os + length w
joined_long xs os w = length-append (xs ++ os) w ∙ ap (λ k. k + length w) (length-append xs os)

module _ {ps : List Float} {fs : List ℕ} {s : Float} {options : ℕ} {xs os w : List ℕ} (q : ThereAsks ps fs s options xs os w) where
  -- the rows can be prepared
  pub prepare_asks : PrepareAsks ps fs xs os w
  prepare_asks = let r = q.ready in record { input = input q.asks; corners_are = r.corners_are; origins_are = r.origins_are; rest_fits = r.rest_fits }

  -- the stated part of the rest
  pub rest_fits : {n : ℕ} → n ≡ 16 * (length ps / 3) + 60 * (length fs / 3) + 64 → n ≤ length w
  rest_fits e = omega (arith, q.ready.rest_fits)

  module _ {text : List ℕ} {n c : ℕ} {r : Bool} (l : LongTold ps fs s options (length text) xs os w n c r) where
    -- it was found too long
    pub there_long : r ≡ true → ThereGives ps fs s options text xs os w text xs os w (Err (ShortRoom 0))
    there_long t = no_room ps fs s options text q.asks (l.so t) (joined xs os w)

    module _ {text₁ xs₁ os₁ w₁ : List ℕ} {bytes : ℕ} (g : PutGives ps fs s options text xs os w text₁ xs₁ os₁ w₁ bytes) where
      -- it is written
      pub there_done : bytes ≤ length text₁ → ThereGives ps fs s options text xs os w text₁ xs₁ os₁ w₁ (Ok bytes)
      there_done h =
          let f : bytes ≤ length text = omega (arith, g.long_text) in
          accepted-by ps fs s options text q.asks (omega (arith, g.long)) (joined xs os w) (omega (arith, joined_long xs os w, ready_long q.ready)) g.long (g.written f) (g.wiped f)

      -- it is too long, and the parts are filled again
      pub there_refilled :
          r ≡ false → n ≡ 16 * (length ps / 3) + 60 * (length fs / 3) + 64 → length text₁ < bytes → {xs₂ os₂ w₂ : List ℕ} → FillGives xs₁ os₁ w₁ n c xs₂ os₂ w₂
          → ThereGives ps fs s options text xs os w text₁ xs₂ os₂ w₂ (Err (ShortRoom 0))
      there_refilled t m h {xs₂} {os₂} {w₂} f =
          let k : length text < bytes = omega (arith, g.long_text) in
          let e : text₁ ≡ text = g.kept k in
          let j : joined xs₂ os₂ w₂ ≡ joined xs os w =
          refilled (rest_fits m) (subst (λ z. Changed xs os w z xs₁ os₁ w₁) (sym m) g.changed) f (⊎_elim (λ (z : length (text_of ps fs s options) ≤ length text). absurd (omega (arith, g.long))) (λ (u : Uniform xs os w n c). u) (l.not_so t)) in
          ap₂ (λ a b. outcome_of (Err (ShortRoom 0)) a b) e j ∙ no_room ps fs s options text q.asks (omega (arith, g.long)) (joined xs os w)

-- ---- the whole call

-- nothing is changed
as_before : (text xs os w : List ℕ) → Kept text xs os w text xs os w
as_before text xs os w = record { text_is = refl; corners_are = refl; origins_are = refl; rest_is = refl }

module _ (ps : List Float) (fs : List ℕ) (s : Float) (options : ℕ) (text xs os w : List ℕ) where
  -- the input is refused
  pub is_refused : (r : Refusal) → no (number_of r) (place_of r) ≡ decided (input_list ps fs s options) → ListGives ps fs s options text xs os w text xs os w (Err r)
  is_refused r e =
      record { parted = λ d. here (joined xs os w); apart = λ d. here []; apart_kept = λ d. as_before text xs os w }
    where
      here : (work : List ℕ) → outcome_of (Err r) text work ≡ write_list ps fs s options (rooms_of text work)
      here work =
          refused_by ps fs s options text work r
          (hand_on (input_list ps fs s options) _ _ _ e ∙ list_is ps fs s options (rooms_of text work))

  module _ (e : ok ≡ decided (input_list ps fs s options)) where
    -- it is not
    pub fine : LongAsks ps fs s options
    fine = record { fine = sym e }

    module _ {b : Bool} (r : ReadyTold (length ps / 3) (length fs / 3) (length xs) (length os) (length w) b) where
      -- the parts are ready
      pub there_asks : b ≡ true → ThereAsks ps fs s options xs os w
      there_asks y = record { asks = fine; ready = r.so y }

      -- so they are those of one room
      pub is_there : b ≡ true → {text' xs' os' w' : List ℕ} {a : Result ℕ Refusal} → ThereGives ps fs s options text xs os w text' xs' os' w' a → ListGives ps fs s options text xs os w text' xs' os' w' a
      is_there y g =
          record {
            parted = λ d. g;
            apart = λ d. absurd (d (ready_parted (r.so y)));
            apart_kept = λ d. absurd (d (ready_parted (r.so y)));
          }

      module _ {f : Bool} (h : f ≡ ltb (length text) (length (text_of ps fs s options))) where
        -- the text does not fit
        pub is_long : f ≡ true → ListGives ps fs s options text xs os w text xs os w (Err (ShortRoom 0))
        is_long y =
            let k = ltb-true (length text) (length (text_of ps fs s options)) (sym h ∙ y) in
            record {
              parted = λ d. no_room ps fs s options text fine k (joined xs os w);
              apart = λ d. no_room ps fs s options text fine k [];
              apart_kept = λ d. as_before text xs os w;
            }

        -- it fits, and there is no work room
        pub is_short : b ≡ false → f ≡ false → ListGives ps fs s options text xs os w text xs os w (Err (ShortRoom 1))
        is_short x y =
            let k = ltb-false (length text) (length (text_of ps fs s options)) (sym h ∙ y) in
            record {
              parted = λ d. no_work ps fs s options text fine k (joined xs os w) (omega (arith, joined_long xs os w, parted_short d (r.not_so x)));
              apart = λ d. no_work ps fs s options text fine k [] (unfold work_room in (omega arith));
              apart_kept = λ d. as_before text xs os w;
            }
