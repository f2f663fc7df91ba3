mod Sameness
