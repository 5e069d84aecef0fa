-- A book stays orderly.
use Rattle.std.proofs.Common.{◌≡◌, ℕ, Bool, true, false, eqb, List, [], ◌∷◌, Some, None, Option, refl, subst, inl, inr, arith}
use Rattle.std.proofs.lemmas.Bool.{cases_Bool, cond_both, ne_eqb}
use Rattle.kinds.specs.Kinds.{Ops, Laws}
use Rattle.book.specs.Lists.{Rising}
use Rattle.book.specs.Keyed.{KeepsRising}
use Rattle.book.specs.Calls.{find, size, position, rank, sum, page, Call, empty, share, build, put, remove, window, merge, common, without, sift, give_back, ask, compare, pick, Plan, stop, store, strike, tell, choose, bounded}
use Rattle.book.specs.Book.{Book, opened, due, under, plan, stored, struck, made, moved, Orderly}
use Rattle.book.specs.Run.{Event, told_six, run, RunsOrderly}
use Rattle.book.specs.declared.refusal.Refusal.{Refusal}
use Rattle.book.proofs.Rising.{keeps_rising}

module _ {E K S L : Type 0} (o : Ops E K S L) (laws : Laws o) where
  keeps : KeepsRising o
  keeps = keeps_rising o laws

  -- a plan stores nothing but rising keys
  abbrev Stores : Plan E S L → Type 0
  Stores (stop r) = Unit {0}
  Stores (store n xs) = Rising o xs
  Stores (strike n) = Unit {0}
  Stores (tell r) = Unit {0}
  Stores (choose l xs) = Unit {0}

  module _ (b : Book E) (ok : Orderly o b) where
    at_one : (n : ℕ) (f : List E → Plan E S L) → ((xs : List E) → Rising o xs → Stores (f xs)) → Stores (under n (b.held n) f)
    at_one n f s = go (b.held n) refl
      where
        go : (h : Option (List E)) → b.held n ≡ h → Stores (under n h f)
        go None e = tt
        go (Some xs) e = s xs (ok.rising n xs e)

    at_two : (n m : ℕ) (f : List E → List E → Plan E S L) → ((xs ys : List E) → Rising o xs → Stores (f xs ys)) → Stores (under n (b.held n) (λ xs. under m (b.held m) (f xs)))
    at_two n m f s = at_one n (λ xs. under m (b.held m) (f xs)) (λ xs r. at_one m (f xs) (λ ys _. s xs ys r))

    at_bounds : (low high : K) (p : Plan E S L) → Stores p → Stores (bounded o low high p)
    at_bounds low high p s = cond_both (o.less high low) (stop _) p Stores (λ _. tt) (λ _. s)

    stores : (c : Call E K L) → Stores (plan o b c)
    stores empty = tt
    stores (share n) = at_one n _ (λ xs r. r)
    stores (build es) = keeps.build es
    stores (put n e) = at_one n _ (keeps.put e)
    stores (remove n k) = at_one n _ (keeps.remove k)
    stores (window n low high) = at_one n _ (λ xs r. at_bounds low high _ (keeps.window low high xs r))
    stores (merge n m) = at_two n m _ keeps.merge
    stores (common n m) = at_two n m _ keeps.common
    stores (without n m) = at_two n m _ keeps.without
    stores (sift n l) = at_one n _ (keeps.sift l)
    stores (give_back n) = at_one n _ (λ xs r. tt)
    stores (ask n (find k)) = at_one n _ (λ xs r. tt)
    stores (ask n size) = at_one n _ (λ xs r. tt)
    stores (ask n (position i)) = at_one n _ (λ xs r. tt)
    stores (ask n (rank k)) = at_one n _ (λ xs r. tt)
    stores (ask n (sum low high)) = at_one n _ (λ xs r. at_bounds low high _ tt)
    stores (ask n (page from room)) = at_one n _ (λ xs r. tt)
    stores (compare n m) = at_two n m _ (λ xs ys r. tt)
    stores (pick n l) = at_one n _ (λ xs r. tt)

    -- what is held after one more list is stored
    orderly_stored : (xs : List E) → Rising o xs → Orderly o (stored b xs)
    orderly_stored xs r = record {
      fresh = λ k h. let old = ok.fresh k (omega arith) in let n = ne_eqb k b.next (λ e. omega arith) in grind arith;
      rising = λ k ys e.
          elim (cases_Bool (eqb k b.next)) [
            | inl same ↦ let is : xs ≡ ys = grind arith in subst (Rising o) is r
            | inr other ↦ ok.rising k ys (grind arith)
          ];
    }

    orderly_struck : (n : ℕ) → Orderly o (struck b n)
    orderly_struck n = record {
      fresh = λ k h. let old = ok.fresh k h in grind arith;
      rising = λ k ys e.
          elim (cases_Bool (eqb k n)) [
            | inl same ↦ let never : ◌≡◌ {A = ℕ} 0 1 = grind arith in absurd (omega arith)
            | inr other ↦ ok.rising k ys (grind arith)
          ];
    }

    orderly_made : (xs : List E) → Rising o xs → (d : Option Refusal) (six : Bool) → Orderly o (made b xs d six)
    orderly_made xs r (Some q) six = ok
    orderly_made xs r None true = ok
    orderly_made xs r None false = orderly_stored xs r

    orderly_moved : (p : Plan E S L) → Stores p → (six : Bool) → Orderly o (moved b p six)
    orderly_moved (stop r) s six = ok
    orderly_moved (store n xs) s six = orderly_made xs s (due b) six
    orderly_moved (strike n) s six = orderly_struck n
    orderly_moved (tell r) s six = ok
    orderly_moved (choose l xs) s six = ok

  orderly_run : (es : List (Event E K S L)) (b : Book E) → Orderly o b → Orderly o (run o b es)
  orderly_run [] b ok = ok
  orderly_run (e ∷ es) b ok = orderly_run es _ (orderly_moved b ok (plan o b e.call) (stores b ok e.call) (told_six e.answer))

  orderly_opened : (holds first : ℕ) → Orderly o (opened holds first)
  orderly_opened holds first = record { fresh = λ k h. refl; rising = λ k xs e. let never : ◌≡◌ {A = ℕ} 0 1 = cc in absurd (omega arith) }

  pub runs_orderly : RunsOrderly o
  runs_orderly = record { always = λ holds first es. orderly_run es (opened holds first) (orderly_opened holds first) }
