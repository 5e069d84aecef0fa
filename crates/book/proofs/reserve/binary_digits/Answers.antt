use Rattle.std.proofs.Common.{◌*◌, ◌^◌, ◌<◌, ◌≤◌, sym, subst, arith}
use Rattle.book.proofs.Halving.{above, below, few, left_of_zeros}
use Rattle.book.proofs.reserve.binary_digits.Goals as goal

pub returns : goal.returns
returns c =
    let n = c.args.n in
    let is = left_of_zeros n (omega arith) in
    record {
      value = is;
      high_bound = subst (λ d. n < 2 ^ d) (sym is) (above n);
      low_bound = subst (λ d. 0 < n → 2 ^ d ≤ 2 * n) (sym is) (below n);
      bound = subst (λ d. d ≤ 64) (sym is) (few n (omega arith));
    }
