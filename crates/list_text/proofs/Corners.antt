-- Where the corners at a point begin among the sorted ones, and that they are one run. Assumes nothing.
use mathlib.Core.Path.{◌≡◌, sym, ap, ◌∙◌}
use mathlib.Core.List.{List, ◌++◌}
use Prim.Native.Nat.{ℕ, zero, suc, ◌+◌, ◌-◌, ◌*◌, ◌≤◌, ◌<◌}
use native.Mathlib.Omega.{arith}
use native.Mathlib.Decide.{le_ind, dec_lt}
use lib.ListN.{length, get_or, get_or-append}
use lib.Seq.{get_or-append-add}
use Rattle.rows.specs.Region.{part}
use Rattle.rows.specs.Retain.{up_to}
use Rattle.rows.proofs.FilterLaws.{All, all_at, all_append}
use Rattle.rows.proofs.Regions.{length_part, get_d_part, part_eq}
use Rattle.sorting.specs.Groups.{having, sorted_by}
use Rattle.sorting.specs.Sort.{key_by}
use Rattle.sorting.proofs.GroupLaws.{start_suc, start_mono, having_all, all_sorted}
use Rattle.sorting.proofs.Numbers.{numbers_below}
use Rattle.sorting.proofs.Rising.{all_imp}
use Rattle.sorting.proofs.Runs.{run_at}
use Rattle.list_text.specs.declared.Rows.{Rows}
use Rattle.list_text.specs.Written.{Sorted, start_of}

module _ (f : ℕ → ℕ) (xs : List ℕ) where
  -- the keys in the sort up to v are below v
  sorted_keys : (v : ℕ) → All (λ x. f x < v) (sorted_by f v xs)
  sorted_keys zero = tt
  sorted_keys (suc v) =
      all_append (λ x. f x < suc v) (sorted_by f v xs) (having f v xs)
      (all_imp (λ x. f x < v) (λ x. f x < suc v) (λ x l. omega arith) (sorted_by f v xs) (sorted_keys v))
      (all_imp (λ x. f x ≡ v) (λ x. f x < suc v) (λ x e. omega arith) (having f v xs) (having_all f v xs))

  -- before the place where the key v begins stand lower keys
  lower : (v K q : ℕ) → v ≤ K → q < length (sorted_by f v xs) → f (get_or (sorted_by f K xs) q 0) < v
  lower v K q h l =
      le_ind (λ (n : ℕ). f (get_or (sorted_by f n xs) q 0) < v) (all_at (λ x. f x < v) (sorted_by f v xs) (sorted_keys v) q l)
      (λ n m r. rw (get_or-append (sorted_by f n xs) (having f n xs) 0 q (omega (arith, start_mono f xs v n m))) r) K h

  -- from it on there are none
  upper : (v K q : ℕ) → v ≤ K → length (sorted_by f v xs) ≤ q → q < length (sorted_by f K xs) → v ≤ f (get_or (sorted_by f K xs) q 0)
  upper v K q h l =
      le_ind (λ (n : ℕ). q < length (sorted_by f n xs) → v ≤ f (get_or (sorted_by f n xs) q 0)) (λ c. absurd (omega arith))
      (λ n m r c. go n m r c (dec_lt q (length (sorted_by f n xs)))) K h
    where
      go : (n : ℕ) → v ≤ n → (q < length (sorted_by f n xs) → v ≤ f (get_or (sorted_by f n xs) q 0)) → q < length (sorted_by f (suc n) xs) → Dec (q < length (sorted_by f n xs)) → v ≤ f (get_or (sorted_by f (suc n) xs) q 0)
      go n m r c (yes k) = rw (get_or-append (sorted_by f n xs) (having f n xs) 0 q k) (r k)
      go n m r c (no k) =
          let a = sorted_by f n xs in
          let b = having f n xs in
          let s : q ≡ length a + (q - length a) = omega arith in
          let e : f (get_or (a ++ b) q 0) ≡ n =
          ap (λ (j : ℕ). f (get_or (a ++ b) j 0)) s ∙ ap f (get_or-append-add a b (q - length a) 0)
          ∙ all_at (λ x. f x ≡ n) b (having_all f n xs) (q - length a) (omega (arith, start_suc f xs n)) in
          omega (arith, e, m)

-- a part of a part
part_part : (w : List ℕ) (o n a k : ℕ) → o + n ≤ length w → a + k ≤ n → part w (o + a) k ≡ part (part w o n) a k
part_part w o n a k h l =
    part_eq w (part w o n) (o + a) a k (omega arith) (rw (length_part w o n h) l)
    (λ i q. let e : o + a + i ≡ o + (a + i) = omega arith in ap (λ j. get_or w j 0) e ∙ sym (get_d_part w o n (a + i) (omega arith)))

module _ {w : List ℕ} {rows : Rows} (s : Sorted w rows) where
  -- how many corners there are, the point at each, and the sorted ones
  abbrev many : ℕ
  many = 3 * rows.left

  abbrev pub key : ℕ → ℕ
  key = key_by w rows.column many

  abbrev ids : List ℕ
  ids = sorted_by key s.top (up_to many)

  -- all of them are there
  total : length ids ≡ many
  total = sym (ap length s.sorted) ∙ length_part w rows.sorted many s.sorted_fit

  -- the one at a place
  id_is : (q : ℕ) → q < many → get_or w (rows.sorted + q) 0 ≡ get_or ids q 0
  id_is q h = sym (get_d_part w rows.sorted many q h) ∙ ap (λ (l : List ℕ). get_or l q 0) s.sorted

  pub id_below : (q : ℕ) → q < many → get_or w (rows.sorted + q) 0 < many
  id_below q h = rw (id_is q h) (all_at (λ x. x < many) ids (all_sorted (λ x. x < many) key s.top (up_to many) (numbers_below many)) q (omega (arith, total)))

  -- its point
  point_is : (q : ℕ) → q < many → get_or w (rows.column + get_or w (rows.sorted + q) 0) 0 ≡ key (get_or ids q 0)
  point_is q h = sym (get_d_part w rows.column many (get_or w (rows.sorted + q) 0) (id_below q h)) ∙ ap key (id_is q h)

  module _ (v : ℕ) (m : v ≤ rows.points + rows.splits) where
    -- the corners at points below v are among all
    pub start_most : start_of w rows v ≤ many
    start_most = omega (arith, start_mono key (up_to many) v s.top (omega (arith, s.enough)), total)

    -- a corner at a point below v stands before them
    pub ahead : (q : ℕ) → q < many → get_or w (rows.column + get_or w (rows.sorted + q) 0) 0 < v → q < start_of w rows v
    ahead q h l = go (dec_lt q (start_of w rows v))
      where
        go : Dec (q < start_of w rows v) → q < start_of w rows v
        go (yes k) = k
        go (no k) = absurd (omega (arith, point_is q h, upper key (up_to many) v s.top q (omega (arith, s.enough)) (omega arith) (omega (arith, total))))

    -- another one does not
    pub not_ahead : (q : ℕ) → q < many → v ≤ get_or w (rows.column + get_or w (rows.sorted + q) 0) 0 → start_of w rows v ≤ q
    not_ahead q h l = go (dec_lt q (start_of w rows v))
      where
        go : Dec (q < start_of w rows v) → start_of w rows v ≤ q
        go (yes k) = absurd (omega (arith, point_is q h, lower key (up_to many) v s.top q (omega (arith, s.enough)) k))
        go (no k) = omega arith

  -- the next point's corners begin behind
  pub start_next : (v : ℕ) → start_of w rows v ≤ start_of w rows (suc v)
  start_next v = omega (arith, start_suc key (up_to many) v)

  -- and those between are the corners at v
  pub run_is : (v : ℕ) → v < rows.points + rows.splits → part w (rows.sorted + start_of w rows v) (start_of w rows (suc v) - start_of w rows v) ≡ having key v (up_to many)
  run_is v h =
      let n = length (having key v (up_to many)) in
      let e : start_of w rows (suc v) - start_of w rows v ≡ n = omega (arith, start_suc key (up_to many) v) in
      rw e
      (part_part w rows.sorted many (start_of w rows v) n s.sorted_fit (omega (arith, start_suc key (up_to many) v, start_most (suc v) h))
      ∙ ap (λ (l : List ℕ). part l (start_of w rows v) n) s.sorted ∙ run_at key (up_to many) v s.top (omega (arith, s.enough)))
