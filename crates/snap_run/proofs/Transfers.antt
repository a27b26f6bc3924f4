-- Reads one after another, and writes one after another.
use Rattle.std.proofs.Common.{◌≡◌, ℕ, ◌+◌, ◌-◌, ◌≤◌, List, ◌++◌, length, take, drop, Option, None, Some, sym, ap, ◌∙◌, subst, append_assoc, arith}
use Rattle.std.specs.Prelude.{IfSome}
use Rattle.std.specs.Io.KnownBytes.{Consumes, Appends, IsAtEnd}
use Rattle.std.proofs.Math.Seq.{take-add}
use Rattle.std.proofs.lemmas.List.{append-nil, take-append-le, take_all, length-drop}
use Rattle.io_edge.specs.Outside.{AppendsSome}

-- what two reads took stood in front
pub consumes_more : (a b c : Option (List ℕ)) (xs ys : List ℕ) → Consumes a b xs → Consumes b c ys → Consumes a c (xs ++ ys)
consumes_more None b c xs ys first next = tt
consumes_more (Some all) None c xs ys first next = absurd first
consumes_more (Some all) (Some rest) None xs ys first next = absurd next
consumes_more (Some all) (Some rest) (Some end) xs ys first next = first ∙ ap (λ (l : List ℕ). xs ++ l) next ∙ sym (append_assoc xs ys end)

-- what two writes put stands at the end
pub appends_more : (a b c : Option (List ℕ)) (xs ys : List ℕ) → Appends a b xs → Appends b c ys → Appends a c (xs ++ ys)
appends_more None b c xs ys first next = tt
appends_more (Some all) None c xs ys first next = absurd first
appends_more (Some all) (Some more) None xs ys first next = absurd next
appends_more (Some all) (Some more) (Some end) xs ys first next = next ∙ ap (λ (l : List ℕ). l ++ ys) first ∙ append_assoc all xs ys

-- a write that fails behind a front of a text leaves a front of it
pub appends_some : (a b c : Option (List ℕ)) (text : List ℕ) (k : ℕ) → k ≤ length text → Appends a b (take k text) → AppendsSome b c (drop k text) → AppendsSome a c text
appends_some None b c text k within first next = tt
appends_some (Some all) None c text k within first next = absurd first
appends_some (Some all) (Some more) None text k within first next = absurd next
appends_some (Some all) (Some more) (Some end) text k within first next =
    (k + next.0, omega (arith, next.1, length-drop k text), next.2 ∙ ap (λ (l : List ℕ). l ++ take next.0 (drop k text)) first ∙ append_assoc all (take k text) (take next.0 (drop k text)) ∙ ap (λ (l : List ℕ). all ++ l) (sym (take-add k next.0 text)))

-- a front of a text that was written is some of it
pub some_from_all : (a b : Option (List ℕ)) (text : List ℕ) (k : ℕ) → k ≤ length text → Appends a b (take k text) → AppendsSome a b text
some_from_all None b text k within first = tt
some_from_all (Some all) None text k within first = absurd first
some_from_all (Some all) (Some more) text k within first = (k, within, first)

-- what was read up to the end, and is no more than the limit, is the front up to it
pub input_at_end : (a b : Option (List ℕ)) (input : List ℕ) (n : ℕ) → length input ≤ n → Consumes a b input → IsAtEnd b → IfSome a (λ bytes. input ≡ take n bytes)
input_at_end None b input n short taken end = tt
input_at_end (Some all) None input n short taken end = absurd taken
input_at_end (Some all) (Some rest) input n short taken end =
    let whole : all ≡ input = taken ∙ ap (λ (l : List ℕ). input ++ l) end ∙ append-nil input in
    sym (ap (take n) whole ∙ take_all n input short)

-- what was read up to the limit is the front up to it
pub input_at_limit : (a b : Option (List ℕ)) (input : List ℕ) (n : ℕ) → length input ≡ n → Consumes a b input → IfSome a (λ bytes. input ≡ take n bytes)
input_at_limit None b input n full taken = tt
input_at_limit (Some all) None input n full taken = absurd taken
input_at_limit (Some all) (Some rest) input n full taken =
    sym (ap (take n) taken ∙ take-append-le n input rest (omega (arith, full)) ∙ take_all n input (omega (arith, full)))

-- a last read that gave nothing
pub read_to_end : (a b c : Option (List ℕ)) (input room : List ℕ) (n limit : ℕ) → length input ≤ limit → n ≡ 0 → Consumes a b input → Consumes b c (take n room) → IsAtEnd c → IfSome a (λ bytes. input ≡ take limit bytes)
read_to_end a b c input room n limit short none taken last end =
    let all : Consumes a c (input ++ take n room) = consumes_more a b c input (take n room) taken last in
    let nothing : input ++ take n room ≡ input = ap (λ (m : ℕ). input ++ take m room) none ∙ append-nil input in
    input_at_end a c input limit short (subst (Consumes a c) nothing all) end

-- a slice from a place on
pub tail_is : (n : ℕ) (xs : List ℕ) → take (length xs - n) (drop n xs) ≡ drop n xs
tail_is n xs = take_all (length xs - n) (drop n xs) (omega (arith, length-drop n xs))
