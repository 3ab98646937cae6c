-- A script that another program made by the same rule, and one that nothing makes.
use Rattle.std.specs.Prelude.{ℕ, List, codes}

-- The script of seed 1 and size 1.
abbrev pub smallest : List ℕ
smallest = codes "(set-option :print-success false)\n(set-logic QF_UFLIA)\n(declare-fun f (Int) Int)\n(push 1)\n(declare-const x0 Int)\n(assert (<= 214 x0))\n(assert (<= x0 (+ 214 1)))\n(assert (= (f x0) (+ x0 574)))\n(assert (or (<= (+ x0 x0) 428) (< x0 x0)))\n(check-sat)\n(push 1)\n(assert (= x0 214))\n(assert (not (= (f 214) (+ 214 574))))\n(check-sat)\n(pop 1)\n(check-sat)\n(pop 1)\n(push 1)\n(declare-const x0 Int)\n(assert (<= 984 x0))\n(assert (<= x0 (+ 984 1)))\n(assert (= (f x0) (+ x0 574)))\n(assert (or (<= (+ x0 x0) 1968) (< x0 x0)))\n(check-sat)\n(push 1)\n(assert (= x0 984))\n(assert (not (= (f 984) (+ 984 574))))\n(check-sat)\n(pop 1)\n(check-sat)\n(pop 1)\n(push 1)\n(declare-const x0 Int)\n(assert (<= 480 x0))\n(assert (<= x0 (+ 480 1)))\n(assert (= (f x0) (+ x0 574)))\n(assert (or (<= (+ x0 x0) 960) (< x0 x0)))\n(check-sat)\n(push 1)\n(assert (= x0 480))\n(assert (not (= (f 480) (+ 480 574))))\n(check-sat)\n(pop 1)\n(check-sat)\n(pop 1)\n(push 1)\n(declare-const x0 Int)\n(assert (<= 712 x0))\n(assert (<= x0 (+ 712 1)))\n(assert (= (f x0) (+ x0 574)))\n(assert (or (<= (+ x0 x0) 1424) (< x0 x0)))\n(check-sat)\n(push 1)\n(assert (= x0 712))\n(assert (not (= (f 712) (+ 712 574))))\n(check-sat)\n(pop 1)\n(check-sat)\n(pop 1)\n(echo \"size 1 sat 8 unsat 4\")\n"

-- The same, but the first sum is one of value alone.
abbrev pub invented : List ℕ
invented = codes "(set-option :print-success false)\n(set-logic QF_UFLIA)\n(declare-fun f (Int) Int)\n(push 1)\n(declare-const x0 Int)\n(assert (<= 214 x0))\n(assert (<= x0 (+ 214 1)))\n(assert (= (f x0) (+ x0 574)))\n(assert (or (<= (+ x0 x0) 214) (< x0 x0)))\n(check-sat)\n(push 1)\n(assert (= x0 214))\n(assert (not (= (f 214) (+ 214 574))))\n(check-sat)\n(pop 1)\n(check-sat)\n(pop 1)\n(push 1)\n(declare-const x0 Int)\n(assert (<= 984 x0))\n(assert (<= x0 (+ 984 1)))\n(assert (= (f x0) (+ x0 574)))\n(assert (or (<= (+ x0 x0) 1968) (< x0 x0)))\n(check-sat)\n(push 1)\n(assert (= x0 984))\n(assert (not (= (f 984) (+ 984 574))))\n(check-sat)\n(pop 1)\n(check-sat)\n(pop 1)\n(push 1)\n(declare-const x0 Int)\n(assert (<= 480 x0))\n(assert (<= x0 (+ 480 1)))\n(assert (= (f x0) (+ x0 574)))\n(assert (or (<= (+ x0 x0) 960) (< x0 x0)))\n(check-sat)\n(push 1)\n(assert (= x0 480))\n(assert (not (= (f 480) (+ 480 574))))\n(check-sat)\n(pop 1)\n(check-sat)\n(pop 1)\n(push 1)\n(declare-const x0 Int)\n(assert (<= 712 x0))\n(assert (<= x0 (+ 712 1)))\n(assert (= (f x0) (+ x0 574)))\n(assert (or (<= (+ x0 x0) 1424) (< x0 x0)))\n(check-sat)\n(push 1)\n(assert (= x0 712))\n(assert (not (= (f 712) (+ 712 574))))\n(check-sat)\n(pop 1)\n(check-sat)\n(pop 1)\n(echo \"size 1 sat 8 unsat 4\")\n"
