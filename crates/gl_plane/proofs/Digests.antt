-- The digest of an oracle with one entry more, and of equal oracles.
use Rattle.std.proofs.Common.{◌≡◌, ◌≢◌, ℕ, Bool, true, false, [], ◌∷◌, ◌++◌, ◌==◌, refl, ap, ◌∙◌, sym, arith}
use Rattle.gl_calculus.specs.Values.Value.{Entry, Oracle}
use Rattle.gl_calculus.specs.Values.Same.{same_oracle}
use Rattle.gl_plane.specs.Digest.{stirred, digest_from, digest_of}
use Rattle.gl_plane.specs.Exact.{exact_oracle}

more_from : (digest : ℕ) (xs : Oracle) (x : Entry) → digest_from digest (xs ++ x ∷ []) ≡ stirred (digest_from digest xs) x
more_from digest [] x = refl
more_from digest (y ∷ xs) x = more_from (stirred digest y) xs x

pub one_more : (xs : Oracle) (x : Entry) → digest_of (xs ++ x ∷ []) ≡ stirred (digest_of xs) x
one_more = more_from 0

unequal : (xs ys : Oracle) (b : Bool) → same_oracle xs ys ≡ b → digest_of xs ≢ digest_of ys → b ≡ false
unequal xs ys false p h = refl
unequal xs ys true p h = absurd (h (ap digest_of (exact_oracle.0 xs ys p)))

-- oracles of unequal digests are unequal
pub apart : (xs ys : Oracle) (m n : ℕ) → m ≡ digest_of xs → n ≡ digest_of ys → m ≢ n → (m == n) ≡ same_oracle xs ys
apart xs ys m n d e h =
    let test : (m == n) ≡ false = grind (arith, h) in
    test ∙ sym (unequal xs ys (same_oracle xs ys) refl (λ p. h (d ∙ p ∙ sym e)))
