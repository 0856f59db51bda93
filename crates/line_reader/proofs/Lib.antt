mod LineLaws
