-- What is left behind those that are taken out, as one is taken out or put in.
use Rattle.std.proofs.Common.{◌≡◌, ℕ, zero, suc, ◌+◌, ◌<◌, ◌≤◌, List, [], ◌∷◌, length, length-drop, drop, ◌-◌, refl}
use Rattle.std.proofs.Common.{sym, subst, ap, ◌∙◌, arith}
use Rattle.std.specs.List.{insert, remove}
use Rattle.place_queue.specs.Queues.{Queue}

pub drop_removed : (n i j : ℕ) (xs : List ℕ) → j ≡ n + i → n + i < length xs
    → drop n (remove xs j) ≡ remove (drop n xs) i
drop_removed zero i j xs is lt = ap (remove xs) (omega (arith, is))
drop_removed (suc n) i j [] is lt = absurd (omega (arith, lt))
drop_removed (suc n) i zero (x ∷ xs) is lt = absurd (omega (arith, is))
drop_removed (suc n) i (suc j) (x ∷ xs) is lt = drop_removed n i j xs (omega (arith, is)) (omega (arith, lt))

pub drop_inserted : (n i j k : ℕ) (xs : List ℕ) → j ≡ n + i → n + i ≤ length xs
    → drop n (insert xs j k) ≡ insert (drop n xs) i k
drop_inserted zero i j k xs is le = ap (λ a. insert xs a k) (omega (arith, is))
drop_inserted (suc n) i j k [] is le = absurd (omega (arith, le))
drop_inserted (suc n) i zero k (x ∷ xs) is le = absurd (omega (arith, is))
drop_inserted (suc n) i (suc j) k (x ∷ xs) is le = drop_inserted n i j k xs (omega (arith, is)) (omega (arith, le))

drop_first : (n : ℕ) (xs : List ℕ) → drop (n + 1) xs ≡ drop 1 (drop n xs)
drop_first zero xs = refl
drop_first (suc n) [] =
    let e : suc n + 1 ≡ suc (n + 1) = omega arith in
    rw e refl
drop_first (suc n) (x ∷ xs) =
    let e : suc n + 1 ≡ suc (n + 1) = omega arith in
    rw e (drop_first n xs)

abbrev pub queue : List ℕ → ℕ → Queue
queue items room = record { items = items; room = room }

-- what the calls leave
module _ (start room : ℕ) (xs : List ℕ) (q : Queue) (seen : queue (drop start xs) room ≡ q) where
  long : length q.items ≡ length xs - start
  long = ap (λ (p : Queue). length p.items) (sym seen) ∙ length-drop start xs

  pub first_out : (at : ℕ) → at ≡ 0 → queue (drop (start + 1) xs) room ≡ queue (remove q.items at) q.room
  first_out at is =
      let P : Queue → Type 0 = λ p. queue (drop (start + 1) xs) room ≡ queue (remove p.items at) p.room in
      subst P seen (ap (λ ys. queue ys room) (drop_first start xs ∙ ap (remove (drop start xs)) (sym is)))

  pub other_out : (at : ℕ) (new : List ℕ) → at < length q.items → new ≡ remove xs (start + at)
      → queue (drop start new) room ≡ queue (remove q.items at) q.room
  other_out at new lt is =
      let P : Queue → Type 0 = λ p. queue (drop start new) room ≡ queue (remove p.items at) p.room in
      subst P seen (ap (λ ys. queue ys room) (ap (drop start) is ∙ drop_removed start at (start + at) xs refl
      (omega (arith, lt, long))))

  pub put_in : (at k kept : ℕ) (mid new : List ℕ) → at ≤ length q.items → drop kept mid ≡ drop start xs
      → kept ≤ length mid → new ≡ insert mid (kept + at) k
      → queue (drop kept new) room ≡ queue (insert q.items at k) q.room
  put_in at k kept mid new le same within is =
      let P : Queue → Type 0 = λ p. queue (drop kept new) room ≡ queue (insert p.items at k) p.room in
      let as_long : length mid - kept ≡ length xs - start =
      sym (length-drop kept mid) ∙ ap length same ∙ length-drop start xs in
      subst P seen (ap (λ ys. queue ys room)
      (ap (drop kept) is ∙ drop_inserted kept at (kept + at) k mid refl (omega (arith, le, long, as_long, within))
      ∙ ap (λ ys. insert ys at k) same))
