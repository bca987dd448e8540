-- Where a byte stands next in a text. Everything here is a definition over lists and knows no words; nothing is assumed.
use Rattle.std.specs.Prelude.{ℕ, suc, ◌+◌, Bool, cond, ◌||◌, List, [], ◌∷◌, drop, ◌==◌}

-- the byte b
abbrev pub this : ℕ → ℕ → Bool
this b x = x == b

-- one of two bytes
abbrev pub either : ℕ → ℕ → ℕ → Bool
either a b x = x == a || x == b

-- how many bytes stand before the first wanted one; all of them where there is none
unfoldable pub before : (ℕ → Bool) → List ℕ → ℕ
before p [] = 0
before p (x ∷ xs) = cond (p x) 0 (suc (before p xs))

-- the first place at or after `from` that holds a wanted byte; the length where there is none, and `from` where that is past the end
abbrev pub next_place : (ℕ → Bool) → List ℕ → ℕ → ℕ
next_place p xs from = from + before p (drop from xs)
