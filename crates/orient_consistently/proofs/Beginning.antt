-- Component after component is walked. Assumes nothing.
use mathlib.Core.Path.{◌≡◌, refl, sym, ap, ap₂, ◌∙◌}
use mathlib.Core.Bool.{true, false, not, cond}
use mathlib.Core.List.{List, [], ◌∷◌, map}
use Prim.Native.Nat.{ℕ, zero, suc, ◌+◌, ◌*◌, ◌≤◌, ◌<◌}
use native.Mathlib.Omega.{arith}
use native.Mathlib.Numerals.{add-one}
use native.Mathlib.Decide.{ℕ_discrete}
use borrow.Author.Tests.{ne_eqb}
use lib.Dec.{eqb}
use lib.ListN.{length, get_or, set, replicate, length-replicate, get_or-replicate}
use lib.Seq.{get_or-set_same, get_or-set_other, ext_get_or}
use Rattle.rows.specs.Region.{part, Only, Filled}
use Rattle.rows.proofs.Regions.{length_part, get_d_part, only_none, only_both, only_more}
use Rattle.rules.specs.Lists.{count, through, below}
use Rattle.rules.specs.Mesh.{Face, faces_of}
use Rattle.rules.specs.Pass4.{Walk, Oriented, run, started, component, closed, begin, oriented}
use Rattle.rule_laws.proofs.Lists.{through_last}
use Rattle.rule_laws.proofs.Counting.{filter_le}
use Rattle.rule_laws.proofs.Flat.{length_faces}
use Rattle.orienting.specs.Reaching.{turn, turned_by}
use Rattle.orienting.proofs.Room.{Sound, started_sound}
use Rattle.reaching.specs.Walking.{stack_of, walk_of, Fits, Ready}
use Rattle.reaching.proofs.Reading.{visited_at}
use Rattle.reaching.proofs.Visiting.{ready_as}
use Rattle.crossing.specs.Crossing.{Going}
use Rattle.crossing.proofs.Keeping.{Later, later_to, going_kept}
use Rattle.orient_consistently.specs.Walked.{oriented_of, EmptyAsks, EmptyGives, StartAsks, StartGives, BeginAsks, BeginGives, AllAsks, AllGives}

-- ---- one component

-- a start visits one face more
later_started : (i : ℕ) (v : Walk) → i < length v.visited → Later v (started i v)
unfolding started
later_started i v l = record { stay = λ k h. (go k h (ℕ_discrete k i), refl) }
  where
    go : (k : ℕ) → get_or v.visited k false ≡ true → Dec (k ≡ i) → get_or (set v.visited i true) k false ≡ true
    go k h (yes e) = ap (λ j. get_or (set v.visited i true) j false) e ∙ get_or-set_same v.visited i true false l
    go k h (no e) = get_or-set_other v.visited i k true false e ∙ h

-- a visited face begins nothing
begin_seen : (o : Oriented) (i : ℕ) → get_or o.walk.visited i false ≡ true → o ≡ begin o i
unfolding begin
begin_seen o i e = rw e

-- an unvisited one begins its component
begin_unseen : (v u : Walk) (marks i r : ℕ) → get_or v.visited i false ≡ false → u ≡ component v i → r ≡ cond u.mark (suc marks) marks
    → ◌≡◌ {A = Oriented} (record { walk = u; marks = r }) (begin (record { walk = v; marks = marks }) i)
unfolding begin closed
begin_unseen v u marks i r e f g = rw e (ap₂ (λ a b. record { walk = a; marks = b }) f (g ∙ ap (λ a. cond a.mark (suc marks) marks) f))

module _ {w xs : List ℕ} {n i marks : ℕ} (p : BeginAsks w xs n i marks) where
  -- the walk before
  abbrev v : Walk
  v = walk_of (faces_of xs) n w

  -- visited or not, by its state
  state_is : get_or v.visited i false ≡ not (eqb (get_or w (3 + i) 0) 0)
  state_is = visited_at (faces_of xs) n w (let f = p.going.ready.fits.fit in omega arith) i p.here

  -- where it is visited nothing is begun
  pub begin_old : (get_or w (3 + i) 0 ≡ 0 → ⊥) → BeginGives w xs n i marks w marks
  begin_old z =
      record {
        only = only_none 0 (3 + 11 * n) w;
        going = p.going;
        few = omega arith;
        is = begin_seen (oriented_of xs n w marks) i (state_is ∙ ap not (ne_eqb (get_or w (3 + i) 0) 0 z));
      }

  module _ (z : get_or w (3 + i) 0 ≡ 0) where
    -- it is unvisited
    unseen : get_or v.visited i false ≡ false
    unseen = state_is ∙ ap (λ s. not (eqb s 0)) z

    -- so a component may be started
    pub start_asks : StartAsks w n i
    start_asks = let f = p.going.ready.fits in record { few = f.few; fit = f.fit; here = p.here; unseen = z }

    module _ {w₁ : List ℕ} (s : StartGives w n i w₁) where
      -- and walked
      pub empty_asks : EmptyAsks w₁ xs n
      empty_asks =
          let g = p.going in
          let l = later_to (later_started i v (let f = g.ready.sound.flags in let h = p.here in omega arith)) (s.walk (faces_of xs)) in
          let h = p.here in
          record {
            going = going_kept l g (ready_as g.ready s.only.long (omega (arith, s.top)) (s.walk (faces_of xs)) (started_sound g.ready.sound i p.here unseen)) s.only;
          }

      module _ {w₂ : List ℕ} (g : EmptyGives w₁ xs n w₂) where
        -- the component of face i
        is_component : walk_of (faces_of xs) n w₂ ≡ component v i
        unfolding component started
        is_component =
            g.walk
            ∙ ap (λ u. run n u.stack u) (s.walk (faces_of xs))
            ∙ ap (λ k. run k (i ∷ []) (started i v)) (sym p.going.ready.sound.whole)

        -- nothing but the rows is changed
        only_all : Only 0 (3 + 11 * n) w w₂
        only_all = only_both (only_more (omega arith) (omega arith) s.only) g.only

        -- its component is not marked
        pub begin_plain : get_or w₂ 2 0 ≡ 0 → BeginGives w xs n i marks w₂ marks
        unfolding walk_of
        begin_plain m =
            record {
              only = only_all;
              going = g.going;
              few = omega arith;
              is = begin_unseen v (walk_of (faces_of xs) n w₂) marks i marks unseen is_component (rw m);
            }

        -- its component is marked
        pub begin_marked : (get_or w₂ 2 0 ≡ 0 → ⊥) → BeginGives w xs n i marks w₂ (marks + 1)
        unfolding walk_of
        begin_marked m =
            record {
              only = only_all;
              going = g.going;
              few = omega arith;
              is = begin_unseen v (walk_of (faces_of xs) n w₂) marks i (marks + 1) unseen is_component (rw (ne_eqb (get_or w₂ 2 0) 0 m) (add-one marks));
            }

-- what the code reads
pub record Bounds (w : List ℕ) (n i marks : ℕ) : Type 0 where
  pub few : n ≤ 4194304
  pub fit : 3 + 11 * n ≤ length w
  pub here : i < n
  pub most : marks ≤ i

-- they hold
pub begin_bounds : {w xs : List ℕ} {n i marks : ℕ} → BeginAsks w xs n i marks → Bounds w n i marks
begin_bounds p = let f = p.going.ready.fits in record { few = f.few; fit = f.fit; here = p.here; most = p.few }

-- ---- all components

-- the components of the faces before i are walked
pub record AllInv (w₀ xs : List ℕ) (n : ℕ) (w : List ℕ) (marks i : ℕ) : Type 0 where
  pub at_most : i ≤ n
  pub most : marks ≤ i
  pub only : Only 0 (3 + 11 * n) w₀ w
  pub going : Going w xs n
  pub is : oriented_of xs n w marks ≡ through begin (oriented_of xs n w₀ 0) (below i)

-- at first none is
pub all_begin : {w xs : List ℕ} {n : ℕ} → AllAsks w xs n → AllInv w xs n w 0 0
unfolding through below
all_begin {w} {xs} {n} p = record { at_most = omega arith; most = omega arith; only = only_none 0 (3 + 11 * n) w; going = p.going; is = refl }

-- states of 0 change no face
pub turned_none : (n : ℕ) (fs : List Face) → turned_by (replicate n 0) fs ≡ fs
unfolding turned_by turn
turned_none zero fs = refl
turned_none (suc n) [] = refl
turned_none (suc n) (f ∷ fs) = ap (λ l. f ∷ l) (turned_none n fs)

-- nor visit any
unseen_none : (n : ℕ) → map (λ s. not (eqb s 0)) (replicate n 0) ≡ replicate n false
unseen_none zero = refl
unseen_none (suc n) = ap (λ l. false ∷ l) (unseen_none n)

-- states that are cleared
pub states_cleared : (w : List ℕ) (n : ℕ) → 3 + n ≤ length w → Filled 3 n 0 w → part w 3 n ≡ replicate n 0
states_cleared w n f z =
    let l = length_part w 3 n f in
    ext_get_or 0 (part w 3 n) (replicate n 0) (l ∙ sym (length-replicate n 0))
    (λ i q. let h : i < n = omega arith in get_d_part w 3 n i h ∙ z.each i h ∙ sym (get_or-replicate n i 0 0 h))

module _ {w₀ xs : List ℕ} {n : ℕ} (f : Fits w₀ xs n) (blank : Filled 0 (3 + 11 * n) 0 w₀) where
  -- each entry is 0
  pub zero_at : (q : ℕ) → q < 3 + 11 * n → get_or w₀ q 0 ≡ 0
  zero_at q h = let e : q ≡ 0 + q = omega arith in ap (λ z. get_or w₀ z 0) e ∙ blank.each q h

  -- all states are 0
  states_none : part w₀ 3 n ≡ replicate n 0
  states_none =
      let g = f.fit in
      states_cleared w₀ n (omega arith) (record { each = λ i h. zero_at (3 + i) (omega arith) })

  -- as many faces as said
  pub long_faces : length (faces_of xs) ≡ n
  long_faces = length_faces xs ∙ (let l = f.long in omega arith)

  -- the walk is the rule's at its start
  pub blank_is : walk_of (faces_of xs) n w₀ ≡ record { faces = faces_of xs; visited = replicate (length (faces_of xs)) false; stack = []; exchanges = 0; mark = false }
  unfolding walk_of stack_of
  blank_is =
      let l : n ≡ length (faces_of xs) = sym long_faces in
      let g : turned_by (part w₀ 3 n) (faces_of xs) ≡ faces_of xs = ap (λ ss. turned_by ss (faces_of xs)) states_none ∙ turned_none n (faces_of xs) in
      let v : map (λ s. not (eqb s 0)) (part w₀ 3 n) ≡ replicate (length (faces_of xs)) false =
      ap (map (λ s. not (eqb s 0))) states_none ∙ unseen_none n ∙ ap (λ k. replicate k false) l
      in
      let t : get_or w₀ 0 0 ≡ 0 = zero_at 0 (omega arith) in
      let x : get_or w₀ 1 0 ≡ 0 = zero_at 1 (omega arith) in
      let m : get_or w₀ 2 0 ≡ 0 = zero_at 2 (omega arith) in
      rw (g, v, t, x, m)

  -- which is sound
  pub blank_ready : Ready w₀ xs n
  blank_ready =
      record {
        fits = f;
        top = omega (arith, zero_at 0 (omega arith));
        sound = rw (blank_is, long_faces) at_start;
      }
    where
      at_start : Sound n (record { faces = faces_of xs; visited = replicate n false; stack = []; exchanges = 0; mark = false })
      at_start =
          let l = length-replicate n false in
          let c : count not (replicate n false) ≤ n = (unfold count in omega (arith, filter_le not (replicate n false), length-replicate n false)) in
          record { flags = l; whole = long_faces; stacked = tt; room = omega arith; turns = omega arith }

module _ {w₀ xs : List ℕ} {n : ℕ} (p : AllAsks w₀ xs n) where
  module _ {w : List ℕ} {marks i : ℕ} (u : AllInv w₀ xs n w marks i) where
    -- face i may be begun
    pub all_ask : i < n → BeginAsks w xs n i marks
    all_ask h = record { going = u.going; here = h; few = u.most }

    -- one component more, or none
    pub all_again : i < n → {w' : List ℕ} {r : ℕ} → BeginGives w xs n i marks w' r → AllInv w₀ xs n w' r (i + 1)
    all_again h {w'} {r} g =
        record {
          at_most = omega arith;
          most = omega (arith, g.few, u.most);
          only = only_both u.only g.only;
          going = g.going;
          is = g.is ∙ ap (λ o. begin o i) u.is ∙ sym (ap (λ k. through begin (oriented_of xs n w₀ 0) (below k)) (add-one i) ∙ through_last begin (oriented_of xs n w₀ 0) i);
        }

    -- past the last face
    pub all_done : n ≤ i → AllGives w₀ xs n w marks
    unfolding oriented
    all_done h =
        let e : i ≡ length (faces_of xs) = sym (length_faces xs ∙ (let f = p.going.ready.fits.long in let m = u.at_most in omega arith)) in
        record {
          only = u.only;
          going = u.going;
          few = omega (arith, u.most, u.at_most);
          is = u.is ∙ ap₂ (λ a k. through begin (record { walk = a; marks = 0 }) (below k)) (blank_is p.going.ready.fits p.blank) e;
        }
