-- Each call shows its example, which the definitions give.
use Rattle.checked_calls.proofs.all_made.Goals as goal

pub returns : goal.returns
returns c = λ h. (
  c.made.ensures _ h.0,
  (
    c.made-2.ensures _ h.1.0,
    (
      c.made-3.ensures _ h.1.1.0,
      (
        c.made-4.ensures _ h.1.1.1.0,
        (
          c.made-5.ensures _ h.1.1.1.1.0,
          (
            c.made-6.ensures _ h.1.1.1.1.1.0,
            (
              c.made-7.ensures _ h.1.1.1.1.1.1.0,
              (
                c.made-8.ensures _ h.1.1.1.1.1.1.1.0,
                (
                  c.made-9.ensures _ h.1.1.1.1.1.1.1.1.0,
                  (
                    c.made-10.ensures _ h.1.1.1.1.1.1.1.1.1.0,
                    (
                      c.made-11.ensures _ h.1.1.1.1.1.1.1.1.1.1.0,
                      (
                        c.made-12.ensures _ h.1.1.1.1.1.1.1.1.1.1.1.0,
                        (
                          c.made-13.ensures _ h.1.1.1.1.1.1.1.1.1.1.1.1.0,
                          tt,
                        ),
                      ),
                    ),
                  ),
                ),
              ),
            ),
          ),
        ),
      ),
    ),
  ),
)
