-- The refusal that a call's plan comes to is the first that the table of refusals gives.
use Rattle.std.proofs.Common.{◌≡◌, ℕ, Bool, true, false, List, Some, None, Option, sym, refl, ap, subst, inl, inr, arith}
use Rattle.std.proofs.lemmas.Bool.{both_ways}
use Rattle.kinds.specs.Kinds.{Ops}
use Rattle.std.specs.Option.{option_or}
use Rattle.book.specs.Calls.{find, size, position, rank, sum, page, Call, empty, share, build, put, remove, window, merge, common, without, sift, give_back, ask, compare, pick, Answer, given, returned, says, refused, entry, Plan, stop, store, strike, tell, choose, bounded}
use Rattle.book.specs.Book.{Book, due, under, plan, made, moved, Made, Right}
use Rattle.book.specs.Numbers.{capped}
use Rattle.book.specs.Run.{is_no_room}
use Rattle.book.specs.Declined.{makes, missing, crossed, first_reason, InOrder}
use Rattle.book.specs.declared.refusal.Refusal.{Refusal}
use Rattle.book.specs.declared.refusal.Refusal.TheVariants.{NoRoom}

abbrev is_refusal : {E S : Type 0} → Answer E S → Bool
is_refusal (given n) = false
is_refusal returned = false
is_refusal (says q) = false
is_refusal (refused r) = true

module _ {E K S L : Type 0} (o : Ops E K S L) where
  -- r is the refusal that the book works out for a plan, of a call that makes a map or not
  abbrev Gives : Book E → Bool → Plan E S L → Option Refusal → Type 0
  Gives b m (stop q) r = r ≡ Some q
  Gives b m (store n xs) r = (r ≡ due b) × (m ≡ true)
  Gives b m (strike n) r = r ≡ None
  Gives b m (tell q) r = r ≡ None
  Gives b m (choose l xs) r = r ≡ None

  module _ (b : Book E) (m : Bool) where
    at_one : (n : ℕ) (h : Option (List E)) (f : List E → Plan E S L) (r : Option Refusal) → ((xs : List E) → Gives b m (f xs) r) → Gives b m (under n h f) (option_or (missing n h None) r)
    at_one n None f r g = refl
    at_one n (Some xs) f r g = g xs

    at_two : (n k : ℕ) (h i : Option (List E)) (f : List E → List E → Plan E S L) (r : Option Refusal) → ((xs ys : List E) → Gives b m (f xs ys) r) →
        Gives b m (under n h (λ xs. under k i (f xs))) (option_or (missing n h (missing k i None)) r)
    at_two n k None i f r g = refl
    at_two n k (Some xs) None f r g = refl
    at_two n k (Some xs) (Some ys) f r g = g xs ys

    at_bounds : (low high : K) (c : Bool) → o.less high low ≡ c → (p : Plan E S L) (r : Option Refusal) → Gives b m p r → Gives b m (bounded o low high p) (option_or (crossed o low high) r)
    at_bounds low high true e p r g = rw e refl
    at_bounds low high false e p r g = rw e g

  gives : (b : Book E) (c : Call E K L) → Gives b (makes c) (plan o b c) (first_reason o b c)
  gives b empty = (refl, refl)
  gives b (share n) = at_one b true n (b.held n) _ (due b) (λ xs. (refl, refl))
  gives b (build es) = (refl, refl)
  gives b (put n e) = at_one b true n (b.held n) _ (due b) (λ xs. (refl, refl))
  gives b (remove n k) = at_one b true n (b.held n) _ (due b) (λ xs. (refl, refl))
  gives b (window n low high) = at_one b true n (b.held n) _ _ (λ xs. at_bounds b true low high _ refl _ (due b) (refl, refl))
  gives b (merge n k) = at_two b true n k (b.held n) (b.held k) _ (due b) (λ xs ys. (refl, refl))
  gives b (common n k) = at_two b true n k (b.held n) (b.held k) _ (due b) (λ xs ys. (refl, refl))
  gives b (without n k) = at_two b true n k (b.held n) (b.held k) _ (due b) (λ xs ys. (refl, refl))
  gives b (sift n l) = at_one b true n (b.held n) _ (due b) (λ xs. (refl, refl))
  gives b (give_back n) = at_one b false n (b.held n) _ None (λ xs. refl)
  gives b (ask n (find k)) = at_one b false n (b.held n) _ None (λ xs. refl)
  gives b (ask n size) = at_one b false n (b.held n) _ None (λ xs. refl)
  gives b (ask n (position i)) = at_one b false n (b.held n) _ None (λ xs. refl)
  gives b (ask n (rank k)) = at_one b false n (b.held n) _ None (λ xs. refl)
  gives b (ask n (sum low high)) = at_one b false n (b.held n) _ _ (λ xs. at_bounds b false low high _ refl _ None refl)
  gives b (ask n (page from room)) = at_one b false n (b.held n) _ None (λ xs. refl)
  gives b (compare n k) = at_two b false n k (b.held n) (b.held k) _ None (λ xs ys. refl)
  gives b (pick n l) = at_one b false n (b.held n) _ None (λ xs. refl)

  declined : (b : Book E) (m : Bool) (p : Plan E S L) (r : Refusal) → Gives b m p (Some r) → (a : Answer E S) → Right o b p a → a ≡ refused r
  declined b m (stop q) r g a h = cc
  declined b m (store n xs) r g a h = subst (λ d. Made b n d a) (sym g.0) h
  declined b m (strike n) r g a h = cc
  declined b m (tell q) r g a h = cc
  declined b m (choose l xs) r g a h = cc

  abbrev BySix : Bool → Refusal → Type 0
  BySix m r = (m ≡ true) × ((used reserve : ℕ) × (r ≡ NoRoom used reserve))

  nothing : (q : Refusal) → None ≡ Some q → ⊥
  nothing q e = let z : ◌≡◌ {A = ℕ} 0 1 = cc in omega arith

  not_refused : (r : Refusal) (a : Answer E S) → is_refusal a ≡ false → refused r ≡ a → ⊥
  not_refused r a e h = both_ways (is_refusal a) e (ap is_refusal (sym h))

  room : (b : Book E) (m : Bool) (n : ℕ) (r : Refusal) → m ≡ true → Made {E = E} {S = S} b n None (refused r) → BySix m r
  room b m n r e (inl h) = absurd (not_refused r (given b.next) refl h)
  room b m n r e (inr h) = (e, (h.0, capped n, cc))

  six : (b : Book E) (m : Bool) (p : Plan E S L) → Gives b m p None → (r : Refusal) → Right o b p (refused r) → BySix m r
  six b m (stop q) g r h = absurd (nothing q g)
  six b m (store n xs) g r h = room b m n r g.1 (subst (λ d. Made {S = S} b n d (refused r)) (sym g.0) h)
  six b m (strike n) g r h = absurd (not_refused r returned refl h)
  six b m (tell q) g r h = absurd (not_refused r (says q) refl h)
  six b m (choose l xs) g r h = absurd (not_refused r (says (entry h.0)) refl h.1)

  told_six_lem : (b : Book E) (n : ℕ) (xs : List E) (d : Option Refusal) (r : Refusal) → Made {E = E} {S = S} b n d (refused r) → made b xs d (is_no_room r) ≡ b
  told_six_lem b n xs (Some q) r h = refl
  told_six_lem b n xs None r (inl h) = absurd (not_refused r (given b.next) refl h)
  told_six_lem b n xs None r (inr h) = let is : r ≡ NoRoom h.0 (capped n) = cc in ap (λ q. made b xs None (is_no_room q)) is

  still : (b : Book E) (p : Plan E S L) (r : Refusal) → Right o b p (refused r) → moved b p (is_no_room r) ≡ b
  still b (stop q) r h = refl
  still b (store n xs) r h = told_six_lem b n xs (due b) r h
  still b (strike n) r h = absurd (not_refused r returned refl h)
  still b (tell q) r h = refl
  still b (choose l xs) r h = refl

  pub in_order : InOrder o
  in_order = record {
    declined_by = λ b c r e. declined b (makes c) (plan o b c) r (subst (Gives b (makes c) (plan o b c)) e (gives b c));
    only_six = λ b c e. six b (makes c) (plan o b c) (subst (Gives b (makes c) (plan o b c)) e (gives b c));
    unchanged = λ b c. still b (plan o b c);
  }
