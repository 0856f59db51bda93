mod MarksLaws
