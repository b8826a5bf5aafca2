-- Where a list is cut at its first such byte.
use Rattle.std.proofs.Common.{◌≡◌, ℕ, ◌+◌, ◌<◌, ◌≤◌, ◌==◌, suc, Bool, true, false, cond, List, [], ◌∷◌, ◌++◌, length, get_or, take, drop, add-one, refl, sym, ap, ◌∙◌, arith}
use Rattle.std.specs.Prelude.{position, Some, None}
use Rattle.std.specs.List.{position_or_len}
use Rattle.std.proofs.Math.Seq.{drop-cons}
use Rattle.std.proofs.lemmas.Bool.{ltb-false, eqb-true, false_from_ne_true}
use Rattle.std.proofs.lemmas.List.Sums.{fails_before_first}
use Rattle.std.proofs.lemmas.List.{take-append-drop, get_or-take, length-take}
use Rattle.std.proofs.lemmas.List.Elements.{All-from_get_or}
use Rattle.std.proofs.lemmas.List.Quantifiers.{position-Some}
use Rattle.std.proofs.lemmas.List.Splits.{slice_split_at, slice_split_none}
use Rattle.memchr.specs.Find.{NoneBefore, Nowhere, Passes, is_byte}
use Rattle.sup_format.specs.Reading.Words.{words_of, Lacks, IsSplit}

none_means_false : (b : Bool) (n : ℕ) → cond b (Some n) None ≡ None → b ≡ false
none_means_false true n e = absurd cc
none_means_false false n e = refl

-- cut at a byte that is there, and nowhere before it
cut_at : (byte : ℕ) (bytes : List ℕ) (at : ℕ) → at < length bytes → get_or bytes at 0 ≡ byte → ((k : ℕ) → k < at → (get_or bytes k 0 == byte) ≡ false)
    → IsSplit byte bytes (take at bytes) (drop (at + 1) bytes)
cut_at byte bytes at within here before =
    let rest : drop at bytes ≡ byte ∷ drop (at + 1) bytes = rw add-one (drop-cons bytes at 0 within ∙ ap (λ b. b ∷ drop (suc at) bytes) here) in
    record {
      parts = sym (take-append-drop at bytes) ∙ ap (λ (l : List ℕ). take at bytes ++ l) rest;
      first = All-from_get_or (λ b. (b == byte) ≡ false) (take at bytes) 0 (λ k below. rw (get_or-take at bytes k 0 (omega (arith, length-take at bytes))) (before k (omega (arith, length-take at bytes))));
    }

pub split_found : (byte : ℕ) (bytes : List ℕ) (at : ℕ) → position (λ b. b == byte) bytes ≡ Some at → IsSplit byte bytes (take at bytes) (drop (at + 1) bytes)
split_found byte bytes at e =
    let found = position-Some (λ b. b == byte) bytes at 0 e in
    cut_at byte bytes at found.0 (eqb-true _ _ found.1) found.2

pub first_found : (byte : ℕ) (bytes : List ℕ) (at : ℕ) → NoneBefore (Passes (is_byte byte) bytes) 0 (length bytes) at → Passes (is_byte byte) bytes at
    → IsSplit byte bytes (take at bytes) (drop (at + 1) bytes)
first_found byte bytes at none here =
    cut_at byte bytes at none.high (eqb-true _ _ here) (λ k below. false_from_ne_true (get_or bytes k 0 == byte) (none.before k (omega arith) below))

pub first_missing : (byte : ℕ) (bytes : List ℕ) → Nowhere (Passes (is_byte byte) bytes) 0 (length bytes) → Lacks byte bytes
first_missing byte bytes none =
    All-from_get_or (λ b. (b == byte) ≡ false) bytes 0 (λ k below. false_from_ne_true (get_or bytes k 0 == byte) (none k (omega arith) below))

pub split_missing : (byte : ℕ) (bytes : List ℕ) → position (λ b. b == byte) bytes ≡ None → Lacks byte bytes
split_missing byte bytes e =
    let past : length bytes ≤ position_or_len (λ b. b == byte) bytes = ltb-false _ _ (none_means_false _ _ e) in
    All-from_get_or (λ b. (b == byte) ≡ false) bytes 0 (λ k below. fails_before_first (λ b. b == byte) bytes k 0 (omega arith))

pub words-split : (line front rest : List ℕ) → IsSplit 32 line front rest → words_of line ≡ front ∷ words_of rest
words-split line front rest split = ap words_of split.parts ∙ slice_split_at (λ b. b == 32) front 32 rest split.first refl

pub words-one : (line : List ℕ) → Lacks 32 line → words_of line ≡ line ∷ []
words-one line lacks = slice_split_none (λ b. b == 32) line lacks
